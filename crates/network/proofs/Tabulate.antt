-- The figures f 0 to f (m - 1), one for each record: how the part of an array that is filled record by record ends.
use Prim.Native.Nat.{ℕ, zero, suc, ◌+◌, ◌<◌}
use Rattle.std.specs.Prelude.{◌≡◌, length, set, take}
use Rattle.std.proofs.Math.Path.{refl, ap, ap₂}
use Rattle.std.proofs.Common.{◌∙◌, subst, eq-or-lt_of_le, add-one, arith}
use mathlib.Core.List.{List, [], ◌∷◌, ◌++◌}
use Rattle.std.proofs.Math.Logic.{⊎_elim}
use Rattle.std.proofs.Math.ListN.{get_or, length-append}
use Rattle.std.proofs.Math.Seq.{take-suc-set}
use Rattle.network.specs.Tabulate.{tabulate}

module _ {A : Type 0} where
  get_or-left : (xs ys : List A) (i : ℕ) (d : A) → i < length xs → get_or (xs ++ ys) i d ≡ get_or xs i d
  get_or-left [] ys i d h = absurd (omega arith)
  get_or-left (x ∷ xs) ys zero d h = refl
  get_or-left (x ∷ xs) ys (suc i) d h = get_or-left xs ys i d (omega arith)

  get_or-last : (xs : List A) (x d : A) → get_or (xs ++ (x ∷ [])) (length xs) d ≡ x
  get_or-last [] x d = refl
  get_or-last (y ∷ xs) x d = get_or-last xs x d

  -- of the same figures
  pub tabulate-same : (f g : ℕ → A) (m : ℕ) → ((i : ℕ) → i < m → f i ≡ g i) → tabulate f m ≡ tabulate g m
  unfolding tabulate
  tabulate-same f g zero e = refl
  tabulate-same f g (suc m) e = ap₂ (λ (l : List A) (x : A). l ++ (x ∷ [])) (tabulate-same f g m (λ i h. e i (omega arith))) (e m (omega arith))

  -- the first figure, and those after it
  pub tabulate-first : (f : ℕ → A) (m : ℕ) → tabulate f (suc m) ≡ f 0 ∷ tabulate (λ i. f (suc i)) m
  unfolding tabulate
  tabulate-first f zero = refl
  tabulate-first f (suc m) = ap (λ (l : List A). l ++ (f (suc m) ∷ [])) (tabulate-first f m)

  module _ (f : ℕ → A) where
    pub tabulate-none : tabulate f 0 ≡ []
    unfolding tabulate
    tabulate-none = refl

    pub tabulate-length : (m : ℕ) → length (tabulate f m) ≡ m
    unfolding tabulate
    tabulate-length zero = refl
    tabulate-length (suc m) = length-append (tabulate f m) (f m ∷ []) ∙ omega (arith, tabulate-length m)

    -- the figure of a record
    pub tabulate-at : (m i : ℕ) → i < m → (d : A) → get_or (tabulate f m) i d ≡ f i
    unfolding tabulate
    tabulate-at zero i h d = absurd (omega arith)
    tabulate-at (suc m) i h d =
        ⊎_elim
        (λ (q : i ≡ m). rw q (subst (λ (n : ℕ). get_or (tabulate f m ++ (f m ∷ [])) n d ≡ f m) (tabulate-length m) (get_or-last (tabulate f m) (f m) d)))
        (λ (q : i < m). get_or-left (tabulate f m) (f m ∷ []) i d (rw tabulate-length q) ∙ tabulate-at m i q d)
        (eq-or-lt_of_le (omega arith))

    -- an array whose first m entries are filled, with one more
    pub tabulate-turn : (l : List A) (m : ℕ) (x : A) → m < length l → take m l ≡ tabulate f m → x ≡ f m → take (m + 1) (set l m x) ≡ tabulate f (m + 1)
    unfolding tabulate
    tabulate-turn l m x h e q = rw (add-one, take-suc-set l m x h, e, q)
