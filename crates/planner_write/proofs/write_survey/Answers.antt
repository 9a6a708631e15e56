-- By the kind, then the verdict on the yard, then full columns.
use Rattle.std.proofs.Common.{◌≡◌, ◌∙◌, Err, arith, length, length-take-le, rules, sym}
use Rattle.network.specs.Limits.{max_links}
use Rattle.network.specs.Checked.{no_refusal}
use Rattle.network.specs.Writing.{yard_figures_checked}
use Rattle.planner_write.specs.Calling.{by-full, by_kind, by-links, by-yard, few-links, long-enough}
use Rattle.planner_write.proofs.write_survey.Goals as goal
use Rattle.planner_write.proofs.write_survey.Goals.{In_ok-check_yard}

-- the yard is not refused
fine : (c : In_ok-check_yard) → yard_figures_checked c.args.yard (length c.args.sums.now) ≡ no_refusal
fine c = sym c.check_yard.ensures ∙ c.in_ok-check_yard.was

pub returns-in_default : goal.returns-in_default
returns-in_default c =
    let a = c.args in
    let way = by_kind a.kind a.yard a.ends.now a.sums.now a.costs.now a.survey.now c.in_default.ensures in
    record { reply = rw c.of.ensures way.0; leaves = way.1.0; promised = rw c.of.ensures way.1.1 }

pub returns-in_err-check_yard : goal.returns-in_err-check_yard
returns-in_err-check_yard c =
    let a = c.args in
    let same : c.from_residual.result ≡ Err c.in_err-check_yard.field-0.0 = search rules in
    let way = by-yard a.kind a.yard a.ends.now a.sums.now a.costs.now a.survey.now c.in-Some.ensures.2 _ (sym c.check_yard.ensures ∙ c.in_err-check_yard.was) in
    record { reply = rw same way.0; leaves = way.1.0; promised = rw same way.1.1 }

pub invariant_of-figures : goal.invariant_of-figures
invariant_of-figures c = record { full = long-enough _ _ _ _ (fine ((goal.at.invariant_of-figures c).In_ok-check_yard)) c.if-m-ends.true }

pub returns-then-m-ends : goal.returns-then-m-ends
returns-then-m-ends c =
    let a = c.args in
    let l = c.in-Some.ensures in
    let ensured = c.write_full.ensures in
    let way = by-links a.kind a.yard a.ends.now a.sums.now a.costs.now a.survey.now l.2 l.0 (fine ((goal.at.returns-then-m-ends c).In_ok-check_yard)) ensured.reply
    ensured.leaves ensured.met in
    record { reply = way.0; leaves = way.1.0; promised = way.1.1 }

pub slice_bounds-all_sums-end : goal.slice_bounds-all_sums-end
slice_bounds-all_sums-end c =
    let all : length c.full_sums-all_sums.result ≡ max_links = search rules in
    omega (arith, few-links _ _ (fine ((goal.at.slice_bounds-all_sums-end c).In_ok-check_yard)))

pub slice_bounds-figures-end-2 : goal.slice_bounds-figures-end-2
slice_bounds-figures-end-2 c =
    let all : length c.full_sums-all_sums.result ≡ max_links = search rules in
    let few = few-links _ _ (fine ((goal.at.slice_bounds-figures-end-2 c).In_ok-check_yard)) in
    sym (length-take-le _ c.full_sums-all_sums.result (omega arith))

pub returns : goal.returns
returns c =
    let a = c.args in
    let l = c.in-Some.ensures in
    let ensured = c.write_full-2.ensures in
    let way = by-full a.kind a.yard a.ends.now a.sums.now a.costs.now a.survey.now l.2 l.0 c.full_ends-all_ends.ensures c.full_sums-all_sums.ensures
    c.full_costs-all_costs.ensures (fine ((goal.at.returns c).In_ok-check_yard)) ensured.reply ensured.leaves ensured.met in
    record { reply = way.0; leaves = way.1.0; promised = way.1.1 }
