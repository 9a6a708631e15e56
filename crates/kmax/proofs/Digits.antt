-- The pattern of an edge as a number: digit i is 1 where the edge exceeds ceiling i. Edges with one number exceed the same ceilings, and the digits
-- say which sets of edges are admissible. For any number of ceilings and any ranks.
use Rattle.std.specs.Prelude.{Bool, true, not, ◌≡◌, ℕ, suc, ◌+◌, ◌*◌, ◌/◌, ◌%◌, ◌^◌, ◌≤◌, ◌<◌, ltb, length}
use Rattle.std.proofs.Math.Bool.{false}
use mathlib.Core.List.Memᴰ
use mathlib.Core.List.Memᴰ.{head as here}
use mathlib.Core.List.Memᴰ.{tail as there}
use mathlib.Core.List.{List, [], ◌∷◌, map}
use Rattle.std.proofs.Common.{⊎_elim, sym, ap, ap₂, ◌∙◌, pow-suc, arith}
use Rattle.std.proofs.Math.Path.{refl}
use Rattle.std.proofs.Math.Nat.{suc_inj}
use Rattle.std.proofs.Math.Dec.{eqb}
use borrow.Author.Tests.{eq-eqb, eqb-false, eqb-true, lt-ltb, ltb-true, ne_eqb}
use Rattle.order.specs.Test.{by-test, left}
use Rattle.order.proofs.Test.{both, right, test_iff}
use Rattle.order.specs.Lists.{◌∈◌, count}
use Rattle.order.proofs.Lists.{map-mem}
use Rattle.order.specs.Order.{TotalOrder}
use Rattle.kmax.specs.KMax.{count_above}
use Rattle.kmax.specs.Ceilings.{Ceiling, admissible, ceilings, exceeds, exceptional, slack_of}
use Rattle.kmax.specs.Digits.{admits, flag, half, marked, ones, pattern}

-- ---- patterns of edges

module _ {C : Type 0} (O : TotalOrder C) where
  low_digit : (c : Ceiling C) (cs : List (Ceiling C)) (e : ℕ) → pattern O (c ∷ cs) e % 2 ≡ flag (exceeds O c e)
  unfolding pattern
  low_digit c cs e = by-test (exceeds O c e) (λ k. rw k (omega arith)) (λ k. rw k (omega arith))

  high-digits : (c : Ceiling C) (cs : List (Ceiling C)) (e : ℕ) → pattern O (c ∷ cs) e / 2 ≡ pattern O cs e
  unfolding pattern
  high-digits c cs e = by-test (exceeds O c e) (λ k. rw k (omega arith)) (λ k. rw k (omega arith))

  flag_same : (a b : Bool) → flag a ≡ flag b → a ≡ b
  flag_same true true e = refl
  flag_same true false e = absurd (omega arith)
  flag_same false true e = absurd (omega arith)
  flag_same false false e = refl

  -- edges with one number exceed the same ceilings
  pub pattern-alike : (cs : List (Ceiling C)) (c : Ceiling C) → c ∈ cs → (x y : ℕ) → pattern O cs x ≡ pattern O cs y → exceeds O c x ≡ exceeds O c y
  pattern-alike [] c m x y e = elim m [ ]
  pattern-alike (d ∷ cs) c m x y e =
      ⊎_elim
      (λ (q : c ≡ d). rw q (flag_same (exceeds O d x) (exceeds O d y) (sym (low_digit d cs x) ∙ ap (λ (n : ℕ). n % 2) e ∙ low_digit d cs y)))
      (λ k. pattern-alike cs c k x y (sym (high-digits d cs x) ∙ ap (λ (n : ℕ). n / 2) e ∙ high-digits d cs y))
      (Memᴰ.cases_cons m)

  -- a normal edge has no digit
  pub pattern-none : (cs : List (Ceiling C)) (e : ℕ) → eqb (pattern O cs e) 0 ≡ not (exceptional O cs e)
  unfolding pattern
  pattern-none [] e = refl
  pattern-none (c ∷ cs) e =
      by-test (exceeds O c e)
      (λ k. rw k (one (pattern O cs e)))
      (λ k. rw k (twice (pattern O cs e) ∙ pattern-none cs e))
    where
      one : (n : ℕ) → eqb (1 + 2 * n) 0 ≡ false
      one n = ne_eqb (1 + 2 * n) 0 (λ e. omega arith)

      twice : (n : ℕ) → eqb (0 + 2 * n) 0 ≡ eqb n 0
      twice n = test_iff _ _ (λ e. eq-eqb n 0 (omega (arith, eqb-true (0 + 2 * n) 0 e)), λ e. eq-eqb (0 + 2 * n) 0 (omega (arith, eqb-true n 0 e)))

  -- ---- what is admitted by the digits is admissible

  ones-count : (c : Ceiling C) (cs : List (Ceiling C)) (X : List ℕ) → ones (map (pattern O (c ∷ cs)) X) ≡ count_above O c.bound (map c.cost X)
  unfolding ones
  ones-count c cs [] = refl
  ones-count c cs (x ∷ X) =
      rw (low_digit c cs x, ones-count c cs X) (by-test (exceeds O c x) (λ k. rw k (omega arith)) (λ k. rw k (omega arith)))

  halves : (c : Ceiling C) (cs : List (Ceiling C)) (X : List ℕ) → map half (map (pattern O (c ∷ cs)) X) ≡ map (pattern O cs) X
  halves c cs [] = refl
  halves c cs (x ∷ X) = ap₂ (λ (p : ℕ) (ps : List ℕ). p ∷ ps) (high-digits c cs x) (halves c cs X)

  pub admits-admissible : (cs : List (Ceiling C)) (X : List ℕ) → admits (map (λ c. c.rank) cs) (map (pattern O cs) X) ≡ admissible O cs X
  unfolding admits
  admits-admissible [] X = refl
  admits-admissible (c ∷ cs) X = rw (ones-count c cs X, halves c cs X, admits-admissible cs X)

-- the ranks of ceilings made from lists of ranks and bounds
pub ceilings-ranks : {C : Type 0} (cost : ℕ → ℕ → C) (i : ℕ) (ks : List ℕ) (bs : List C) → length bs ≡ length ks
    → map (λ c. c.rank) (ceilings cost i ks bs) ≡ ks
ceilings-ranks cost i [] bs l = refl
ceilings-ranks cost i (k ∷ ks) [] l = absurd (omega arith)
ceilings-ranks cost i (k ∷ ks) (b ∷ bs) l = ap (λ (r : List ℕ). k ∷ r) (ceilings-ranks cost (suc i) ks bs (suc_inj l))

-- ---- ranks admit few exceptions

-- a marked number has the low digit, or is marked without it
marked-half : (ps : List ℕ) → count marked ps ≤ ones ps + count marked (map half ps)
unfolding ones
marked-half [] = omega arith
marked-half (p ∷ ps) =
    let rest = marked-half ps in
    by-test (eqb p 0)
    (λ e. let z : p ≡ 0 = eqb-true p 0 e in rw z (omega arith))
    (λ e. by-test (eqb (p / 2) 0)
    (λ h. let z = eqb-false p 0 e in rw (e, h) (omega (arith, eqb-true (p / 2) 0 h)))
    (λ h. rw (e, h) (omega arith)))

pub admits-few : (ks ps : List ℕ) → ((p : ℕ) → p ∈ ps → p < 2 ^ length ks) → admits ks ps ≡ true → count marked ps ≤ slack_of ks
unfolding admits
admits-few [] ps small a = none ps small
  where
    none : (ps : List ℕ) → ((p : ℕ) → p ∈ ps → p < 2 ^ 0) → count marked ps ≤ 0
    none [] small = omega arith
    none (p ∷ ps) small =
        let z : p ≡ 0 = omega (arith, small p (here refl)) in
        rw z (none ps (λ q m. small q (there m)))
admits-few (k ∷ ks) ps small a =
    let few = ltb-true (ones ps) k (left (ltb (ones ps) k) (admits ks (map half ps)) a) in
    let rest = admits-few ks (map half ps)
    (λ h m. let p = map-mem half ps h m in rw p.2 (omega (arith, small p.0 p.1, pow-suc 2 (length ks))))
    (right (ltb (ones ps) k) (admits ks (map half ps)) a) in
    omega (arith, marked-half ps)

-- no edge at all is admitted where no rank is 0
pub admits-none : (ks : List ℕ) → ((k : ℕ) → k ∈ ks → 0 < k) → admits ks [] ≡ true
unfolding admits ones
admits-none [] h = refl
admits-none (k ∷ ks) h = both (lt-ltb 0 k (h k (here refl))) (admits-none ks (λ j m. h j (there m)))
