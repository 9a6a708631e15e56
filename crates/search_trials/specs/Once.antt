-- That a base is in rising order of cost, and that each of its links stands in it once, has one proof at most.
use Rattle.std.specs.Prelude.{ℕ, List, [], ◌∷◌}
use Rattle.std.specs.Coded.{×_prop, Π_prop, Unit-prop, le_prop, Coded-set, coded_bool}
use mathlib.Core.HLevel.{¬_prop}
use Rattle.order.specs.Order.{orderℕ}
use Rattle.order.specs.Perm.{Pairwise}
use Rattle.order.specs.Sorted.{Apart, Sorted}
use Rattle.search_trials.specs.Marks.{Distinct}

pairwise-prop : (R : ℕ → ℕ → Type 0) → ((x y : ℕ) → IsProp (R x y)) → (l : List ℕ) → IsProp (Pairwise R l)
pairwise-prop R p [] = Unit-prop
pairwise-prop R p (x ∷ xs) = ×_prop (Π_prop (λ y. Π_prop (λ m. p x y))) (pairwise-prop R p xs)

pub sorted-prop : (key : ℕ → ℕ) (l : List ℕ) → IsProp (Sorted orderℕ key l)
sorted-prop key l = pairwise-prop _ (λ x y. Coded-set coded_bool _ _) l

apart-prop : (l : List ℕ) → IsProp (Apart (λ x. x) l)
apart-prop l = pairwise-prop _ (λ x y. ¬_prop) l

pub distinct-prop : (l : List ℕ) → IsProp (Distinct l)
distinct-prop l d e = λ i. record { apart = apart-prop l d.apart e.apart i; below = Π_prop (λ x. Π_prop (λ m. le_prop)) d.below e.below i }
