-- Signed costs kept as natural numbers: each raised by the same number k. Sums of equally many costs compare as the raised sums do, and the signed sum
-- is the raised one less k for each cost.
use Rattle.std.specs.Prelude.{List, ◌≡◌, refl, ℕ, zero, suc, ◌-◌, ◌*◌, ◌<◌, leb, ltb, pos, ◌-ℤ◌, length}
use Rattle.std.proofs.Common.{sym, ap, ◌∙◌, arith, le-leb, leb-true, ltb-false, ltb-true}
use Rattle.std.proofs.Math.IntN.{sub_ℕ}
use Rattle.std.specs.Int.Signed.{le_z, mag}
use Rattle.std.proofs.lemmas.Bool.{lt-leb}
use Rattle.order.specs.Test.{by-test}
use Rattle.order.proofs.Test.{test_iff}
use Rattle.order.specs.Perm.{sum}
use Rattle.order.specs.Lowered.{lowered, sub-above, sub-below, sum-lowered, sumℤ}

-- ---- the difference of two natural numbers

-- it is the difference of integers
pub sub-integers : (a b : ℕ) → pos a -ℤ pos b ≡ sub_ℕ a b
sub-integers a zero = ap pos (omega arith) ∙ sym (sub-above a 0 (omega arith))
sub-integers a (suc b) = refl

-- and no further from 0 than both numbers
pub sub_small : (a b n : ℕ) → a < n → b < n → mag (sub_ℕ a b) < n
sub_small a b n h k =
    by-test (ltb a b)
    (λ p. let x = ltb-true a b p in rw (sub-below a b x) (omega arith))
    (λ p. let x = ltb-false a b p in rw (sub-above a b x) (omega arith))

-- differences from one number compare as the numbers do
sub_order : (a b c : ℕ) → le_z (sub_ℕ a c) (sub_ℕ b c) ≡ leb a b
sub_order a b c =
    by-test (ltb a c)
    (λ p. by-test (ltb b c)
    (λ q.
    let x = ltb-true a c p in
    let y = ltb-true b c q in
    rw (sub-below a c x, sub-below b c y)
    (test_iff (leb (c - suc b) (c - suc a)) (leb a b) (
      λ e. le-leb a b (omega (arith, leb-true (c - suc b) (c - suc a) e)),
      λ e. le-leb (c - suc b) (c - suc a) (omega (arith, leb-true a b e)),
    )))
    (λ q. let x = ltb-true a c p in let y = ltb-false b c q in rw (sub-below a c x, sub-above b c y, le-leb a b (omega arith))))
    (λ p. by-test (ltb b c)
    (λ q. let x = ltb-false a c p in let y = ltb-true b c q in rw (sub-above a c x, sub-below b c y, lt-leb a b (omega arith)))
    (λ q.
    let x = ltb-false a c p in
    let y = ltb-false b c q in
    rw (sub-above a c x, sub-above b c y)
    (test_iff (leb (a - c) (b - c)) (leb a b) (
      λ e. le-leb a b (omega (arith, leb-true (a - c) (b - c) e)),
      λ e. le-leb (a - c) (b - c) (omega (arith, leb-true a b e)),
    ))))

-- ---- sums

module _ {A : Type 0} (k : ℕ) (raised : A → ℕ) where
  -- THE LAW: sums of equally many costs compare as the raised sums do
  pub lowered-weighs : (us ts : List A) → length us ≡ length ts → le_z (sumℤ (lowered k raised) us) (sumℤ (lowered k raised) ts) ≡ leb (sum raised us) (sum raised ts)
  lowered-weighs us ts e = rw (sum-lowered k raised us, sum-lowered k raised ts, e) (sub_order (sum raised us) (sum raised ts) (length ts * k))
