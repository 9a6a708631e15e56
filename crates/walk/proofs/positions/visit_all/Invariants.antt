-- `walk::positions::visit_all` meets its contract. The invariant: marks, records and counts are those of the entries that the walk has solved among the
-- positions before n, and no more are solved than allowed.
use mathlib.Core.Path.{◌≡◌}
use Prim.Native.Nat.{◌≤◌}
use lib.ListN.{length}
use Rattle.network.specs.Capacities.{ceilings_held, plans_held, tree_held}
use Rattle.marking.specs.Gridded.{network}
use Rattle.walk.specs.Progress.{Progress}
use Rattle.walk.proofs.positions.visit_all.Given as goal

abbrev pub invariant-loop-n : goal.invariant-loop-n
invariant-loop-n l =
    (length l.places ≡ ceilings_held) × (length l.bounds ≡ ceilings_held) × (length l.tree ≡ tree_held) × (length l.marks ≡ plans_held)
    × (length l.out ≡ length l.initial.out) × (l.plans ≤ l.n) × (l.solved ≤ l.n) × (l.solved ≤ l.allowance)
    × Progress (network l.net) l.n l.marks l.out l.plans l.solved
