-- The places of a position, by the strides of a grid, and what finding them and the values there asks.
use Rattle.std.specs.Prelude.{List, ◌≡◌, ℕ, ◌≤◌, ℤ, length, take}
use Rattle.network.specs.Capacities.{ceilings_held}
use Rattle.network.specs.declared.Shape.{Shape}
use Rattle.marking.specs.Digits.{Steps, digits_by}
use Rattle.marking.specs.Sides.{strides}
use Rattle.marking.specs.declared.grid.Grid.{Grid}
use Rattle.walk_visit.specs.Found.{Within}

-- the places of position n
abbrev pub places_at : Shape → Grid → ℕ → List ℕ
places_at shape grid n = digits_by (strides (take shape.p grid.sides)) n

-- they can be found, and the values there
pub record Locatable (shape : Shape) (values : List ℤ) (grid : Grid) (n : ℕ) : Type 0 where
  pub ceilings : shape.p ≤ ceilings_held
  pub held : length grid.sides ≡ ceilings_held
  pub steps : Steps (strides (take shape.p grid.sides))
  pub within : Within shape.m values (places_at shape grid n)
