-- `survey_reading::rules::check_records` meets its contract. The tests in their order; what a passed test says gives the next one its room.
use Rattle.std.proofs.Common.{◌≡◌, refl, sym, ◌∙◌, arith, false, length, rules, Err}
use Rattle.network.proofs.Accepted.{whole-records, whole}
use Rattle.network.specs.Checked.{no_refusal, refuse_if, ◌or_else◌}
use Rattle.network.specs.Refusals.{bad_length, records_checked, yard_checked}
use Rattle.network.specs.Survey.{link_count}
use Rattle.survey_reading.proofs.rules.check_records.Goals as goal
use Rattle.survey_reading.proofs.rules.check_records.Goals.{Else-bad_length, In_ok-check_yard}

-- the length is right where the first test is passed
right : (c : Else-bad_length) → bad_length c.args.l (length c.args.s.now) ≡ false
right c = sym c.bad_length.ensures ∙ c.if-bad_length.false

-- the yard record is not refused
yard : (c : In_ok-check_yard) → yard_checked c.args.s.now c.args.l (link_count c.args.l c.args.s.now) ≡ no_refusal
yard c = sym c.check_yard.ensures ∙ c.in_ok-check_yard.was

pub returns-then-bad_length : goal.returns-then-bad_length
unfolding records_checked refuse_if ◌or_else◌
returns-then-bad_length c = rw (sym c.bad_length.ensures ∙ c.if-bad_length.true, c.of.ensures)

pub overflow_sub-m : goal.overflow_sub-m
overflow_sub-m c = omega (arith, whole-records _ _ (right ((goal.at.overflow_sub-m c).Else-bad_length)))

pub invariant_of-yard : goal.invariant_of-yard
invariant_of-yard c =
    record { roomy = c.requires; inside = omega (arith, whole-records _ _ (right ((goal.at.invariant_of-yard c).Else-bad_length))) }

pub returns-in_err-check_yard : goal.returns-in_err-check_yard
unfolding records_checked refuse_if ◌or_else◌
returns-in_err-check_yard c =
    let refused = sym c.check_yard.ensures ∙ c.in_err-check_yard.was in
    let same : c.from_residual.result ≡ Err c.in_err-check_yard.field-0.0 = search rules in
    rw (same, right ((goal.at.returns-in_err-check_yard c).Else-bad_length), refused)

pub invariant_of-records : goal.invariant_of-records
invariant_of-records c =
    record { whole = whole _ _ c.requires (right ((goal.at.invariant_of-records c).Else-bad_length)) (yard ((goal.at.invariant_of-records c).In_ok-check_yard)) }

pub returns-in_err-check_links : goal.returns-in_err-check_links
unfolding records_checked refuse_if ◌or_else◌
returns-in_err-check_links c =
    let refused = sym c.check_links.ensures ∙ c.in_err-check_links.was in
    let same : c.from_residual-in_err-check_links.result ≡ Err c.in_err-check_links.field-0.0 = search rules in
    rw (same, right ((goal.at.returns-in_err-check_links c).Else-bad_length), yard ((goal.at.returns-in_err-check_links c).In_ok-check_yard), refused)

pub returns : goal.returns
unfolding records_checked refuse_if ◌or_else◌
returns c =
    let links = sym c.check_links.ensures ∙ c.in_ok-check_links.was in
    record {
      bytes = refl;
      layout = refl;
      links = refl;
      checked = rw (right ((goal.at.returns c).Else-bad_length), yard ((goal.at.returns c).In_ok-check_yard), links);
    }
