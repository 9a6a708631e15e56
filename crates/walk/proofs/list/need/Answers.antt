-- `walk::list::need` meets its contract. Few positions and few links: the product is small.
use mathlib.Core.Path.{◌≡◌, ap, ◌∙◌}
use Prim.Native.Nat.{ℕ, ◌+◌, ◌*◌}
use native.Mathlib.Nat.{mul-le-mul_right}
use native.Mathlib.Omega.{arith}
use mir.Syntax.{w64}
use mir.Val.{Fits}
use Rattle.network.specs.PlanList.{head_size, plan_size, plan_slots}
use Rattle.walk.proofs.list.need.Goals as goal
use Rattle.walk.proofs.list.need.Goals.{After-plan_size}

-- the size of a record
sized : (c : After-plan_size) → let a = c.args in c.plan_size.result ≡ plan_size (plan_slots a.p) a.t
sized c = let a = c.args in c.plan_size.ensures ∙ ap (λ (slots : ℕ). plan_size slots a.t) c.plan_slots.ensures.0

need-fits : (c : After-plan_size)
    → let total = c.args.total in
    Fits w64 (total * c.plan_size.result) × Fits w64 (head_size + total * c.plan_size.result)
need-fits c =
    let small = mul-le-mul_right c.plan_size.result c.requires in
    let size = c.plan_size.ensures in
    let slots = c.plan_slots.ensures.1 in
    let t = c.ranges.t in
    (omega arith, omega arith)

pub overflow_mul-result : goal.overflow_mul-result
overflow_mul-result c = (need-fits ((goal.at.overflow_mul-result c).After-plan_size)).0

pub overflow_add-result : goal.overflow_add-result
overflow_add-result c = (need-fits ((goal.at.overflow_add-result c).After-plan_size)).1

pub returns : goal.returns
returns c = ap (λ (size : ℕ). head_size + c.args.total * size) (sized ((goal.at.returns c).After-plan_size))
