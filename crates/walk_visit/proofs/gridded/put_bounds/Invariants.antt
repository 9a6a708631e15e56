-- `walk_visit::gridded::put_bounds` meets its contract. The invariant: the values in the first i ceilings.
use mathlib.Core.Path.{◌≡◌}
use lib.ListN.{length, take}
use Rattle.network.specs.Tabulate.{tabulate}
use Rattle.walk_visit.specs.Found.{bound_at}
use Rattle.walk_visit.proofs.gridded.put_bounds.Given as goal

abbrev pub invariant-loop-i : goal.invariant-loop-i
invariant-loop-i l = (length l.bounds ≡ length l.places) × (take l.i l.bounds ≡ tabulate (bound_at l.m l.values l.places) l.i)
