-- `walk_visit::sides::put_own_sides` meets its contract. The invariant: the sides in the first i ceilings, and those of the others as they were.
use mathlib.Core.Path.{◌≡◌}
use lib.ListN.{drop, length, take}
use Rattle.network.specs.Tabulate.{tabulate}
use Rattle.walk_visit.specs.Found.{own_side}
use Rattle.walk_visit.proofs.sides.put_own_sides.Given as goal

abbrev pub invariant-loop-i : goal.invariant-loop-i
invariant-loop-i l =
    (length l.sides ≡ length l.initial.sides) × (take l.i l.sides ≡ tabulate (own_side l.m l.values l.initial.sides l.places l.y) l.i)
    × (drop l.i l.sides ≡ drop l.i l.initial.sides)
