-- The figures f 0 to f (m - 1), one for each record: how the part of an array that is filled record by record ends.
use Prim.Native.Nat.{ℕ, zero, suc}
use mathlib.Core.List.{List, [], ◌∷◌, ◌++◌}

module _ {A : Type 0} where
  -- the figures f 0 to f (m - 1)
  unfoldable pub tabulate : (ℕ → A) → ℕ → List A
  tabulate f zero = []
  tabulate f (suc m) = tabulate f m ++ (f m ∷ [])
