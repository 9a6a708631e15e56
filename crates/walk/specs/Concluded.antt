-- The walk concluded: a list buffer with the promised list.
use Rattle.std.specs.Prelude.{List, ◌++◌, map, ◌≡◌, ℕ, ◌+◌, ◌*◌, ◌≤◌, length}
use Rattle.std.proofs.Common.{ap, ◌∙◌, mul-le-mul_right, arith}
use Rattle.network.specs.Capacities.{plans_held}
use Rattle.network.specs.PlanList.{buffer_need, costs_of, filled, head_bytes, head_size, join, plan_size, plan_slots, record_of}
use Rattle.network.specs.Walk.{plans, position_count}
use Rattle.network.specs.Yard.{tree_size, yard}
use Rattle.network.specs.Network.{Network}
use Rattle.planlist_frontier.specs.Finished.{finished, finished-list, then_zeros}
use Rattle.planlist_frontier.specs.Stored.{absent}
use Rattle.walk.specs.Walked.{Ended}
use Rattle.walk.specs.declared.positions.Walked.{Walked}

module _ (net : Network) {allowance : ℕ} {bs : List ℕ} {w : Walked} (e : Ended net allowance bs w) where
  -- a buffer of the need has room for the plans
  pub ended-room : {size : ℕ} → position_count net ≤ plans_held → buffer_need net ≤ size
      → (w.plans ≤ plans_held) × (head_size + w.plans * plan_size (plan_slots net.p) (tree_size net) ≤ size)
  ended-room few room =
      let h = e.few in
      (omega arith, omega (arith, mul-le-mul_right (plan_size (plan_slots net.p) (tree_size net)) h))

  -- THE LIST: finished, it leaves the promised list, with zeros behind it
  pub list-filled : finished bs w.plans w.solved (tree_size net) net.p ≡ filled net (length bs)
  list-filled =
      let records = join (map (record_of net) (plans net)) in
      finished-list (yard net) (costs_of net) (λ ts. ts) (absent net) bs w.solved (tree_size net) net.p e.recorded
      ∙ ap (λ (k : ℕ). then_zeros (length bs) (head_bytes (length (plans net)) k (tree_size net) net.p ++ records)) e.solved
