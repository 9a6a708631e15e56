-- `planlist_fetching::fetching::fetch_start` meets its contract. The links stand behind plan r's costs.
use mathlib.Core.Path.{sym, ap, ap₂, ◌∙◌}
use Prim.Native.Nat.{ℕ, ◌+◌}
use native.Mathlib.Omega.{arith}
use Rattle.network.specs.PlanList.{plan_size}
use Rattle.planlist_fetching.specs.Found.{found-inside}
use Rattle.planlist_fetching.specs.Fetched.{start-found, start_none}
use Rattle.planlist_fetching.proofs.fetching.fetch_start.Goals as goal

pub bounds-list-9 : goal.bounds-list-9
bounds-list-9 c = omega (arith, found-inside c.in-Ok.ensures)

pub returns-in-Ok : goal.returns-in-Ok
returns-in-Ok c =
    let a = c.args in
    let front = c.plan_size.ensures ∙ ap (λ (k : ℕ). plan_size k 0) c.plan_slots.ensures.0 in
    ap₂ (λ (k n : ℕ). k + n) c.in-Ok.ensures.start front ∙ sym (start-found a.list.now a.r c.in-Ok.ensures.number)

pub returns-in-Err : goal.returns-in-Err
returns-in-Err c = sym (start_none c.args.list.now c.args.r c.in-Err.ensures.refused)
