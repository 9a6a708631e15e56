-- `planlist_frontier::pruning::prune` meets its contract. The invariant: what is to be kept is the records in front, `kept` of them, and what is to be kept
-- of those from the i-th on.
use mathlib.Core.Path.{◌≡◌}
use mathlib.Core.List.{◌++◌}
use Prim.Native.Nat.{◌-◌, ◌*◌, ◌≤◌}
use lib.ListN.{length, drop}
use Rattle.encoding.specs.Blocks.{blocks}
use Rattle.planlist_frontier.specs.Pruned.{pruned_level}
use Rattle.planlist_frontier.proofs.pruning.prune.Given as goal

abbrev pub invariant-loop-i : goal.invariant-loop-i
invariant-loop-i l =
    (length l.plans ≡ length l.initial.plans) × (l.kept ≤ l.i)
    × (pruned_level l.slots l.v (blocks l.size l.count l.initial.plans)
    ≡ blocks l.size l.kept l.plans ++ pruned_level l.slots l.v (blocks l.size (l.count - l.i) (drop (l.i * l.size) l.plans)))
