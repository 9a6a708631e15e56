-- `marking::grid::put_places` meets its contract. The invariant: the places so far and those of the rest are the places of n.
use mathlib.Core.List.{◌++◌}
use mathlib.Core.Path.{◌≡◌}
use lib.ListN.{drop, length, take}
use Rattle.marking.specs.Digits.{digits_by}
use Rattle.marking.specs.Sides.{strides}
use Rattle.marking.proofs.grid.put_places.Given as goal

abbrev pub invariant-loop-i : goal.invariant-loop-i
invariant-loop-i l =
    (length l.places ≡ length l.sides) × (take l.i l.places ++ digits_by (drop l.i (strides l.sides)) l.rest ≡ digits_by (strides l.sides) l.n)
