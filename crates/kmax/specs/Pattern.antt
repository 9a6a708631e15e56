-- Edges that exceed the same ceilings: a tree stays one that fits where some such edges are replaced by as many others. An exceptional edge of a tree
-- that fits is admissible by itself. For any number of ceilings and any k.
use Rattle.std.specs.Prelude.{Bool, true, ◌&&◌, List, [], ◌∷◌, ◌≡◌, ℕ}
use Rattle.order.specs.Lists.{◌∈◌}
use Rattle.order.specs.Order.{TotalOrder}
use Rattle.kmax.specs.Ceilings.{Ceiling, admissible, exceeds, exceptional}

-- ---- definitions

module _ {C : Type 0} (O : TotalOrder C) (cs : List (Ceiling C)) where
  -- an exceptional edge that is admissible by itself
  abbrev pub lone : ℕ → Bool
  lone e = exceptional O cs e && admissible O cs (e ∷ [])

  -- the edges that pass the test exceed the same ceilings
  abbrev pub OnePattern : (ℕ → Bool) → Type 0
  OnePattern p = (c : Ceiling C) → c ∈ cs → (x y : ℕ) → p x ≡ true → p y ≡ true → exceeds O c x ≡ exceeds O c y
