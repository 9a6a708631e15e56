-- The pattern of an edge as a number: digit i is 1 where the edge exceeds ceiling i. Edges with one number exceed the same ceilings, and the digits
-- say which sets of edges are admissible. For any number of ceilings and any ranks.
use Rattle.std.specs.Prelude.{Bool, true, cond, ◌&&◌, not, ℕ, ◌+◌, ◌*◌, ◌/◌, ◌%◌, ltb}
use mathlib.Core.List.{List, [], ◌∷◌, map}
use Rattle.std.proofs.Math.Dec.{eqb}
use Rattle.order.specs.Order.{TotalOrder}
use Rattle.kmax.specs.Ceilings.{Ceiling, exceeds}

-- ---- definitions

-- a test as a number: 1 where it holds
abbrev pub flag : Bool → ℕ
flag b = cond b 1 0

-- the digits, the first ceiling's lowest
unfoldable pub pattern : {C : Type 0} → TotalOrder C → List (Ceiling C) → ℕ → ℕ
pattern O [] e = 0
pattern O (c ∷ cs) e = flag (exceeds O c e) + 2 * pattern O cs e

-- how many of the numbers have the low digit
unfoldable pub ones : List ℕ → ℕ
ones [] = 0
ones (p ∷ ps) = p % 2 + ones ps

-- the digits without the low one
abbrev pub half : ℕ → ℕ
half p = p / 2

-- edges with the patterns ps are admitted by the ranks ks: of each digit there are fewer than its rank
unfoldable pub admits : List ℕ → List ℕ → Bool
admits [] ps = true
admits (k ∷ ks) ps = let rest = admits ks (map half ps) in ltb (ones ps) k && rest

-- a pattern with a digit: that of an exceptional edge
abbrev pub marked : ℕ → Bool
marked p = not (eqb p 0)
