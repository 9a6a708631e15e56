-- `planlist_frontier::place::free_place` meets its contract.
use mathlib.Core.Bool.{Bool, cond}
use mathlib.Core.Path.{◌≡◌, refl, sym, ap, ap₂, ◌∙◌}
use Prim.Native.Nat.{ℕ, suc, ◌+◌, ◌*◌, ◌-◌, ◌≤◌, ◌<◌}
use native.Mathlib.Omega.{arith}
use borrow.Author.Rules.{rules}
use lib.IntN.{ℤ}
use lib.ListN.{drop}
use mir.Syntax.{w32}
use mir.ValLaws.{to_z-of_z}
use Rattle.network.specs.PlanList.{costs_at}
use Rattle.network.specs.declared.Costs.{Costs}
use Rattle.encoding.specs.Blocks.{blocks, blocks-none, length-blocks}
use Rattle.planlist_records.specs.Orders.{at_most, in_order}
use Rattle.planlist_frontier.specs.Lower.{lower-few, lower_sums, no-lower}
use Rattle.planlist_frontier.specs.Place.{free_place, free-none, free-start, free-turn}
use Rattle.planlist_frontier.proofs.place.free_place.Goals as goal
use Rattle.planlist_frontier.proofs.place.free_place.Goals.{After-below-low, After-at_most}

-- the records with a lower sum are counted
lower : (c : After-below-low)
    → let a = c.args in
    (c.below-low.result ≡ lower_sums a.v.sum (blocks a.size a.count a.plans.now)) × (c.below-low.result ≤ a.count)
lower c =
    let a = c.args in
    let bs = blocks a.size a.count a.plans.now in
    let is = c.below-low.ensures ∙ ap (λ (x : ℤ). lower_sums x bs) (to_z-of_z w32 a.v.sum (search rules)) in
    (is, omega (arith, is, lower-few a.v.sum bs, length-blocks a.size a.count a.plans.now))

pub loop-i-init : goal.loop-i-init
loop-i-init c =
    let a = c.args in
    let low = lower ((goal.at.loop-i-init c).After-below-low) in
    free-start a.slots a.v a.size a.count a.plans.now low.0 low.1

-- the turn at record i, by whether it is at most v, and whether v stands before it
turn : (c : After-at_most) {p q : Bool} → c.at_most.result ≡ p
    → let a = c.args in
    let i = c.loop-i.i in
    in_order a.v (costs_at a.slots a.plans.now (i * a.size)) ≡ q
    → free_place a.slots a.v (blocks a.size (a.count - i) (drop (i * a.size) a.plans.now))
    ≡ cond p (suc (a.count - i)) (cond q 0 (suc (free_place a.slots a.v (blocks a.size (a.count - i - 1) (drop (i * a.size + a.size) a.plans.now)))))
unfolding costs_at
turn c e f =
    let a = c.args in
    let i = c.loop-i.i in
    let low = lower ((goal.at.After-at_most c).After-below-low) in
    let more : 0 < a.count - i = omega (arith, c.loop-i-test.true) in
    let high = no-lower a.v.sum a.size a.count a.plans.now i c.requires.0 (omega (arith, low.0, c.loop-i.auto.i)) (omega (arith, c.loop-i-test.true)) in
    let below = sym (c.at_most.ensures ∙ ap (λ (w : Costs). at_most w a.v) c.costs_at-w.ensures) ∙ e in
    free-turn a.slots a.v a.plans.now (i * a.size) (a.count - i) a.size more c.requires.1 high below f

pub returns-then-at_most : goal.returns-then-at_most
returns-then-at_most c =
    let e = turn ((goal.at.returns-then-at_most c).After-at_most) c.if-at_most.true refl in
    omega (arith, e, c.loop-i.invariant)

pub returns-then-in_order : goal.returns-then-in_order
returns-then-in_order c =
    let before = sym (c.in_order.ensures ∙ ap (in_order c.args.v) c.costs_at-w.ensures) ∙ c.if-in_order.true in
    let e = turn ((goal.at.returns-then-in_order c).After-at_most) c.if-at_most.false before in
    (omega arith, omega (arith, e, c.loop-i.invariant))

pub loop-i-preserved : goal.loop-i-preserved
loop-i-preserved c =
    let a = c.args in
    let i = c.loop-i.i in
    let behind = sym (c.in_order.ensures ∙ ap (in_order c.args.v) c.costs_at-w.ensures) ∙ c.if-in_order.false in
    let e = turn ((goal.at.loop-i-preserved c).After-at_most) c.if-at_most.false behind in
    let fewer : a.count - i - 1 ≡ a.count - (i + 1) = omega arith in
    let next : i * a.size + a.size ≡ (i + 1) * a.size = omega arith in
    let same = ap₂ (λ (n k : ℕ). free_place a.slots a.v (blocks a.size n (drop k a.plans.now))) fewer next in
    omega (arith, e, same, c.loop-i.invariant)

pub returns : goal.returns
returns c =
    let l = c.loop-i in
    let a = c.args in
    let low = lower ((goal.at.returns c).After-below-low) in
    let none = ap (free_place a.slots a.v) (blocks-none a.size (a.count - l.i) (drop (l.i * a.size) a.plans.now) (omega arith)) ∙ free-none a.slots a.v in
    (omega arith, omega arith)
