-- `planlist_frontier::place::below` meets its contract. The invariant: the records before `low` have a lower sum, and those from `low + left` on have not.
use Prim.Native.Nat.{◌+◌, ◌≤◌}
use Rattle.encoding.specs.Blocks.{blocks}
use Rattle.planlist_frontier.specs.Lower.{Halved}
use Rattle.planlist_frontier.proofs.place.below.Given as goal

abbrev pub invariant-loop-left : goal.invariant-loop-left
invariant-loop-left l = (l.low + l.left ≤ l.count) × Halved l.sum (blocks l.size l.count l.plans) l.low (l.low + l.left)

abbrev pub decreases-loop-left : goal.decreases-loop-left
decreases-loop-left l = l.left
