-- `planlist_fetching::fetching::fetch_links` meets its contract. The part starts behind plan r's costs.
use mathlib.Core.Path.{◌≡◌, sym, ap, ap₂, ◌∙◌}
use Prim.Native.Nat.{ℕ, ◌+◌, ◌-◌}
use native.Mathlib.Omega.{arith}
use lib.ListN.{take, drop}
use Rattle.network.specs.PlanList.{plan_size}
use Rattle.network.specs.Fetching.{head_tree_size}
use Rattle.planlist_fetching.specs.Found.{found-inside}
use Rattle.planlist_fetching.specs.Fetched.{links-found, links-none}
use Rattle.planlist_fetching.proofs.fetching.fetch_links.Goals as goal

pub bounds-list-9 : goal.bounds-list-9
bounds-list-9 c = omega (arith, found-inside c.in-Ok.ensures)

pub bounds-list-8 : goal.bounds-list-8
bounds-list-8 c = omega (arith, found-inside c.in-Ok.ensures)

pub slice_bounds-result-end : goal.slice_bounds-result-end
slice_bounds-result-end c =
    let size = c.plan_size-in-Ok.ensures ∙ ap (λ (k : ℕ). plan_size k (head_tree_size c.args.list.now)) c.plan_slots-slots.ensures.0 in
    omega (arith, found-inside c.in-Ok.ensures)

pub returns-in-Ok : goal.returns-in-Ok
returns-in-Ok c =
    let a = c.args in
    let l = a.list.now in
    let slots = c.plan_slots-slots in
    let front = c.plan_size in
    let e : c.in-Ok.at + c.plan_size-in-Ok.result - (c.in-Ok.at + front.result) ≡ head_tree_size l = omega (arith, front.ensures, c.plan_size-in-Ok.ensures) in
    let start = ap₂ (λ (k n : ℕ). k + n) c.in-Ok.ensures.start (front.ensures ∙ ap (λ (k : ℕ). plan_size k 0) slots.ensures.0) in
    ap₂ (λ (k n : ℕ). take k (drop n l)) e start ∙ sym (links-found l a.r c.in-Ok.ensures.number)

pub returns-in-Err : goal.returns-in-Err
returns-in-Err c = sym (links-none c.args.list.now c.args.r c.in-Err.ensures.refused)
