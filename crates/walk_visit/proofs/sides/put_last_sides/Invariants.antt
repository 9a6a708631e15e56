-- `walk_visit::sides::put_last_sides` meets its contract. The invariant: the sides in the first i ceilings, and those of the others as they were.
use mathlib.Core.Path.{◌≡◌}
use lib.ListN.{drop, length, take}
use Rattle.network.specs.Tabulate.{tabulate}
use Rattle.walk_visit.specs.Found.{last_side}
use Rattle.walk_visit.proofs.sides.put_last_sides.Given as goal

abbrev pub invariant-loop-i : goal.invariant-loop-i
invariant-loop-i l =
    (length l.sides ≡ length l.initial.sides) × (take l.i l.sides ≡ tabulate (last_side l.initial.sides l.places) l.i)
    × (drop l.i l.sides ≡ drop l.i l.initial.sides)
