-- `planlist_fetching::finding::plan_start` meets its contract. A plan below the count lies inside a list that is not damaged.
use mathlib.Core.Path.{◌≡◌, ap, ◌∙◌}
use Prim.Native.Nat.{ℕ, ◌+◌, ◌*◌, ◌≤◌}
use native.Mathlib.Omega.{arith}
use lib.ListN.{length}
use Rattle.network.specs.PlanList.{head_size, plan_size}
use Rattle.network.specs.Fetching.{head_slots, head_tree_size, plan_start}
use Rattle.planlist_fetching.specs.Found.{whole, plan-inside}
use Rattle.planlist_fetching.proofs.finding.plan_start.Goals as goal
use Rattle.planlist_fetching.proofs.finding.plan_start.Goals.{After-plan_size, Start}

-- the size of a record is the one that the head says, and the record lies inside
inside : (c : After-plan_size)
    → let a = c.args in
    let size = plan_size (head_slots a.list.now) (head_tree_size a.list.now) in
    (a.r * c.plan_size.result ≡ a.r * size) × (plan_start a.list.now a.r + size ≤ length a.list.now)
inside c =
    let list = c.args.list.now in
    let size = c.plan_size.ensures ∙ ap (λ (k : ℕ). plan_size k (head_tree_size list)) c.plan_slots.ensures.0 in
    (ap (λ (k : ℕ). c.args.r * k) size, plan-inside list c.args.r c.requires.0 c.requires.1)

-- the list has its head
head : (s : Start) → head_size ≤ length s.args.list.now
head s = (whole s.args.list.now s.requires.0).long

pub bounds-list-9 : goal.bounds-list-9
bounds-list-9 c = omega (arith, head ((goal.at.bounds-list-9 c).Start))

pub bounds-list-8 : goal.bounds-list-8
bounds-list-8 c = omega (arith, head ((goal.at.bounds-list-8 c).Start))

pub returns : goal.returns
returns c = let i = inside ((goal.at.returns c).After-plan_size) in (omega arith, omega arith)
