-- A column: a list of a fixed length that holds a figure for each of the first m records, and a filler after them. It is how an array that is
-- filled record by record ends.
use Prim.Native.Nat.{ℕ, zero, suc}
use Rattle.std.specs.Prelude.{List, set, replicate}

module _ {A : Type 0} where
  -- size fillers, of which those at 0 to m - 1 are replaced by f
  unfoldable pub column : ℕ → A → (ℕ → A) → ℕ → List A
  column size filler f zero = replicate size filler
  column size filler f (suc m) = set (column size filler f m) m (f m)
