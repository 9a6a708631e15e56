-- Signed costs kept as natural numbers: each raised by the same number k. Sums of equally many costs compare as the raised sums do, and the signed sum
-- is the raised one less k for each cost.
use Rattle.std.specs.Prelude.{List, [], ◌∷◌, ◌≡◌, ℕ, suc, ◌+◌, ◌-◌, ◌*◌, ◌≤◌, ◌<◌, ltb, ℤ, pos, negsuc, ◌+ℤ◌, length}
use Rattle.std.proofs.Common.{ap, ◌∙◌, suc-mul, zero-mul, arith, le-ltb, lt-ltb, ltb-false, ltb-true}
use Rattle.std.proofs.Math.IntN.{sub_ℕ}
use Rattle.order.specs.Test.{by-test}
use Rattle.order.specs.Perm.{sum}

-- ---- the difference of two natural numbers

-- where it is below 0, and where it is not
pub sub-below : (a c : ℕ) → a < c → sub_ℕ a c ≡ negsuc (c - suc a)
sub-below a c h = rw (lt-ltb a c h)

pub sub-above : (a c : ℕ) → c ≤ a → sub_ℕ a c ≡ pos (a - c)
sub-above a c h = rw (le-ltb a c h)

-- equal differences
sub_same : (a c b d : ℕ) → a + d ≡ b + c → sub_ℕ a c ≡ sub_ℕ b d
sub_same a c b d e =
    by-test (ltb a c)
    (λ p. let x = ltb-true a c p in rw (sub-below a c x, sub-below b d (omega arith)) (ap negsuc (omega arith)))
    (λ p. let x = ltb-false a c p in rw (sub-above a c x, sub-above b d (omega arith)) (ap pos (omega arith)))

-- differences add up
sub-add : (a c b d : ℕ) → sub_ℕ a c +ℤ sub_ℕ b d ≡ sub_ℕ (a + b) (c + d)
sub-add a c b d =
    by-test (ltb a c)
    (λ p. by-test (ltb b d)
    (λ q.
    let x = ltb-true a c p in
    let y = ltb-true b d q in
    rw (sub-below a c x, sub-below b d y, sub-below (a + b) (c + d) (omega arith)) (ap negsuc (omega arith)))
    (λ q.
    let x = ltb-true a c p in
    let y = ltb-false b d q in
    rw (sub-below a c x, sub-above b d y) (sub_same (b - d) (suc (c - suc a)) (a + b) (c + d) (omega arith))))
    (λ p. by-test (ltb b d)
    (λ q.
    let x = ltb-false a c p in
    let y = ltb-true b d q in
    rw (sub-above a c x, sub-below b d y) (sub_same (a - c) (suc (d - suc b)) (a + b) (c + d) (omega arith)))
    (λ q.
    let x = ltb-false a c p in
    let y = ltb-false b d q in
    rw (sub-above a c x, sub-above b d y, sub-above (a + b) (c + d) (omega arith)) (ap pos (omega arith))))

-- ---- sums

-- the sum of signed costs
abbrev pub sumℤ : {A : Type 0} → (A → ℤ) → List A → ℤ
sumℤ f [] = pos 0
sumℤ f (x ∷ l) = f x +ℤ sumℤ f l

module _ {A : Type 0} (k : ℕ) (raised : A → ℕ) where
  -- the signed cost that was raised by k
  abbrev pub lowered : A → ℤ
  lowered x = sub_ℕ (raised x) k

  -- the signed sum is the raised one less k for each cost
  pub sum-lowered : (l : List A) → sumℤ lowered l ≡ sub_ℕ (sum raised l) (length l * k)
  sum-lowered [] = let z : 0 * k ≡ 0 = zero-mul k in rw z
  sum-lowered (x ∷ l) =
      ap (λ (z : ℤ). sub_ℕ (raised x) k +ℤ z) (sum-lowered l)
      ∙ sub-add (raised x) k (sum raised l) (length l * k)
      ∙ ap (sub_ℕ (raised x + sum raised l)) (omega (arith, suc-mul (length l) k))
