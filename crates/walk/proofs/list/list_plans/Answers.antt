-- `walk::list::list_plans` meets its contract: the network and the grid of its ceilings are what the walk sets out with.
use mathlib.Core.List.{List}
use mathlib.Core.Path.{◌≡◌, sym, ap, ◌∙◌, subst⁻¹}
use Prim.Native.Nat.{ℕ, ◌+◌, ◌*◌}
use native.Mathlib.Nat.{mul-le-mul}
use native.Mathlib.Omega.{arith}
use lib.IntN.{ℤ, pos}
use lib.ListN.{drop, length, replicate, take}
use lib.Seq.{length-take-le, take_at}
use Rattle.network.specs.Capacities.{ceilings_held, links_held}
use Rattle.network.specs.PlanList.{buffer_need, head_size, plan_size, plan_slots}
use Rattle.network.specs.Walk.{position_count, values}
use Rattle.network.specs.declared.net.Net.{Net}
use Rattle.marking.specs.Gridded.{Gridded, griddable, network, planned-grid}
use Rattle.network.specs.Calls.{status}
use Rattle.network.specs.Checked.{Checked, number_of}
use Rattle.network.specs.declared.refusals.Rule.TheVariants.{ShortBuffer}
use borrow.Author.Rules.{rules}
use Rattle.network.specs.Network.{Network}
use Rattle.network.specs.declared.refusals.Refusal.{Refusal}
use Rattle.stations.specs.Stations.{plannable-stations}
use Rattle.std.specs.Prelude.{Err}
use Rattle.planlist_frontier.specs.Finished.{finished}
use Rattle.walk.specs.Call.{CostsHeld, ended-reply, none-held, short-reply, spent-reply, walk-held}
use Rattle.walk.proofs.list.list_plans.Goals as goal
use Rattle.walk.proofs.list.list_plans.Goals.{After-need}

-- what was computed is what the list buffer needs
need-known : (net : Net) (total need : ℕ) → total ≡ position_count (network net) → need ≡ head_size + total * plan_size (plan_slots net.shape.p) net.shape.t
    → need ≡ buffer_need (network net)
need-known net total need known e =
    e ∙ ap (λ (k : ℕ). head_size + k * plan_size (plan_slots net.shape.p) net.shape.t) known
    ∙ ap (λ (t : ℕ). head_size + position_count (network net) * plan_size (plan_slots net.shape.p) t) net.plannable.tree

need-is : (c : After-need) → c.need.result ≡ buffer_need (network c.args.net)
need-is c =
    let grid = planned-grid c.args.net.plannable c.grid_of-grid.ensures in
    need-known c.args.net c.grid_of-grid.result.total c.need.result grid.total c.need.ensures

-- a reply that is a refusal by a rule shows no plans
refused-held : (net : Network) {r : Checked} (e : Refusal) → r ≡ Err e → (number_of e.rule ≡ 0 → ⊥) → CostsHeld net (status r)
unfolding status
refused-held net e is apart = none-held net (λ z. apart (sym (ap (λ (q : Checked). (status q).number) is) ∙ z))

-- the array of values, with room for as many as there are costs
abbrev zeros : List ℤ
zeros = replicate (ceilings_held * links_held) (pos 0)

values-size : (net : Net) → length (take (length net.costs.now) zeros) ≡ length net.costs.now
values-size net =
    let fine = net.plannable.fine in
    length-take-le (length net.costs.now) zeros (omega (arith, fine.cost-count, mul-le-mul fine.few-ceilings fine.few-links))

pub grid_of-grid-requires : goal.grid_of-grid-requires
grid_of-grid-requires c =
    let can = c.args.net.plannable in
    (plannable-stations can, griddable can (values-size c.args.net))

pub need-requires : goal.need-requires
need-requires c =
    let can = c.args.net.plannable in
    let grid = planned-grid can c.grid_of-grid.ensures in
    omega (arith, grid.total, can.fine.few-positions)

pub invariant_of-gridded : goal.invariant_of-gridded
invariant_of-gridded c =
    let net = c.args.net in
    let size = length net.costs.now in
    let found = c.grid_of-grid in
    let front = take_at found.new.values (drop size zeros) size (found.auto.values ∙ values-size net) in
    record {
      gridded = subst⁻¹ (λ (vs : List ℤ). Gridded (values (network net)) net.shape.m vs found.result) front (planned-grid net.plannable found.ensures);
    }

pub returns-then-out-need : goal.returns-then-out-need
returns-then-out-need c =
    let a = c.args in
    let net = network a.net in
    let need = need-is ((goal.at.returns-then-out-need c).After-need) in
    let short = short-reply net a.allowance a.out.now (omega (arith, need, c.if-out-need.true)) in
    record {
      reply = (search rules) ∙ short.reply;
      leaves = short.leaves;
      held = refused-held net (record { rule = ShortBuffer; place = 0 }) (search rules) (λ z. let nine : ◌≡◌ {A = ℕ} 9 0 = z in absurd (omega arith));
    }

pub returns-in-Ok : goal.returns-in-Ok
returns-in-Ok c =
    let a = c.args in
    let net = network a.net in
    let need = need-is ((goal.at.returns-in-Ok c).After-need) in
    let ended = ended-reply net a.allowance a.out.now (omega (arith, need, c.if-out-need.false)) c.in-Ok.ensures c.visit_all.auto.out in
    record {
      reply = ended.reply;
      leaves = c.finish.ensures ∙ ap (λ (t : ℕ). finished c.visit_all.new.out c.in-Ok.walked.plans c.in-Ok.walked.solved t a.net.shape.p) a.net.plannable.tree
          ∙ ended.leaves;
      held = walk-held net c.in-Ok.ensures;
    }

pub returns-in-Err : goal.returns-in-Err
returns-in-Err c =
    let a = c.args in
    let net = network a.net in
    let need = need-is ((goal.at.returns-in-Err c).After-need) in
    let spent = spent-reply net a.allowance a.out.now (omega (arith, need, c.if-out-need.false)) c.in-Err.ensures.more in
    record {
      reply = ap Err c.of-in-Err.ensures ∙ spent.reply;
      leaves = c.clear.ensures ∙ ap (λ (n : ℕ). replicate n 0) c.visit_all.auto.out ∙ spent.leaves;
      held = refused-held net _ (ap Err c.of-in-Err.ensures) (λ z. let ten : ◌≡◌ {A = ℕ} 10 0 = z in absurd (omega arith));
    }
