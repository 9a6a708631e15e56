-- `marking::grid::values_of` meets its contract. The invariant: the values of the first i ceilings are at the front of their parts.
use mathlib.Core.Path.{◌≡◌}
use Prim.Native.Nat.{◌*◌}
use lib.ListN.{length}
use Rattle.network.specs.Capacities.{ceilings_held}
use Rattle.network.specs.Yard.{usable_at}
use Rattle.marking.specs.Parts.{Filled}
use Rattle.marking.proofs.grid.values_of.Given as goal

abbrev pub invariant-loop-i : goal.invariant-loop-i
invariant-loop-i l =
    (length l.values ≡ length l.initial.values) × (length l.counts ≡ ceilings_held) × (l.from ≡ l.i * l.m)
    × Filled (usable_at l.shape.rest l.ends) l.m l.costs l.values l.counts l.i
