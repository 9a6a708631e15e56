-- Keys that fall, by what a test of each two neighbours answers.
use Rattle.std.specs.Prelude.{Bool, true, false, ◌&&◌, List, [], ◌∷◌, ◌≡◌, refl, ℕ, zero, suc, ◌<◌, ltb, get_or, length}
use Rattle.std.proofs.Common.{sym, ap, subst, add-one, arith}
use Rattle.std.specs.List.{IsAllAdjacentAnswer}
use Rattle.order.specs.Test.{by-test}
use Rattle.order.proofs.Test.{both}
use Rattle.order.specs.Columns.{falling}

falls-all : (l : List ℕ) → ((k d : ℕ) → suc k < length l → true ≡ ltb (get_or l (suc k) d) (get_or l k d)) → falling l ≡ true
unfolding falling
falls-all [] h = refl
falls-all (x ∷ []) h = refl
falls-all (x ∷ y ∷ l) h = both (sym (h 0 x (omega arith))) (falls-all (y ∷ l) (λ k d b. h (suc k) d (omega arith)))

falls_not : (l : List ℕ) (k : ℕ) → suc k < length l → false ≡ ltb (get_or l (suc k) 0) (get_or l k 0) → falling l ≡ false
unfolding falling
falls_not [] k h e = absurd (omega arith)
falls_not (x ∷ []) k h e = absurd (omega arith)
falls_not (x ∷ y ∷ l) zero h e = ap (λ (b : Bool). b && falling (y ∷ l)) (sym e)
falls_not (x ∷ y ∷ l) (suc k) h e =
    let rest = falls_not (y ∷ l) k (omega arith) e in
    by-test (ltb y x) (λ t. rw (t, rest)) (λ t. rw t)

-- the test of all neighbours tells whether keys fall
pub falls_by : (l : List ℕ) (r : Bool) → IsAllAdjacentAnswer (λ x y b. b ≡ ltb y x) l r → r ≡ falling l
falls_by l true h =
    sym (falls-all l (λ k d b. subst (λ (n : ℕ). true ≡ ltb (get_or l n d) (get_or l k d)) (add-one k) (h k d (omega arith))))
falls_by l false h =
    sym (falls_not l h.0 (omega (arith, h.1)) (subst (λ (n : ℕ). false ≡ ltb (get_or l n 0) (get_or l h.0 0)) (add-one h.0) (h.2 0)))
