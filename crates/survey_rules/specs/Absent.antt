-- The costs of absent ceilings, looked at one after the other.
use Rattle.std.specs.Prelude.{ℕ, ◌+◌, ◌≤◌, ◌<◌, true, false, not, ◌||◌, eqb, List, [], ◌∷◌, ◌≡◌, refl, drop, get_or, length}
use Rattle.std.specs.List.{list_any}
use Rattle.std.proofs.Common.{ap, add-one, drop_of_length-le, drop-cons}
use borrow.Author.Tests.{eq-eqb, ne_eqb}
use Rattle.network.specs.Refusals.{absent_costs}

module _ (bits : List ℕ) (j : ℕ) where
  next : j < length bits → drop j bits ≡ get_or bits j 0 ∷ drop (j + 1) bits
  next h = rw (add-one j) (drop-cons bits j 0 h)

  -- the first that is left is not 0
  pub absent-found : j < length bits → (get_or bits j 0 ≡ 0 → ⊥) → absent_costs j bits ≡ true
  unfolding absent_costs
  absent-found h e = rw (next h, ne_eqb (get_or bits j 0) 0 e)

  -- it is 0
  pub absent-turn : j < length bits → get_or bits j 0 ≡ 0 → absent_costs j bits ≡ absent_costs (j + 1) bits
  unfolding absent_costs
  absent-turn h e = rw (next h, eq-eqb (get_or bits j 0) 0 e)

  -- none is left
  pub absent_none : length bits ≤ j → absent_costs j bits ≡ false
  unfolding absent_costs
  absent_none h = rw (drop_of_length-le bits h)

-- some cost that is left is not 0
pub absent-any : (p : ℕ) (bits : List ℕ) → list_any (λ b. not (eqb b 0)) (drop p bits) ≡ absent_costs p bits
unfolding absent_costs
absent-any p bits = go (drop p bits)
  where
    go : (xs : List ℕ) → list_any (λ b. not (eqb b 0)) xs ≡ absent_costs 0 xs
    go [] = refl
    go (x ∷ xs) = ap (λ r. not (eqb x 0) || r) (go xs)
