-- `survey_rules::yard_record::check_yard` meets its contract. The rules are tried in the order of the definition.
use Rattle.std.proofs.Common.{rules}
use Rattle.network.specs.Checked.{◌or_else◌}
use Rattle.network.specs.Refusals.{bad_rest, yard_checked}
use Rattle.network.specs.Survey.{ranks_in}
use Rattle.survey_rules.proofs.yard_record.check_yard.Goals as goal

pub returns-in_err-refuse_if : goal.returns-in_err-refuse_if
unfolding yard_checked bad_rest ranks_in ◌or_else◌
returns-in_err-refuse_if c = search rules

pub returns-in_err-refuse_if-2 : goal.returns-in_err-refuse_if-2
unfolding yard_checked bad_rest ranks_in ◌or_else◌
returns-in_err-refuse_if-2 c = search rules

pub returns-in_err-refuse_if-3 : goal.returns-in_err-refuse_if-3
unfolding yard_checked bad_rest ranks_in ◌or_else◌
returns-in_err-refuse_if-3 c = search rules

pub returns-in_err-refuse_if-4 : goal.returns-in_err-refuse_if-4
unfolding yard_checked bad_rest ranks_in ◌or_else◌
returns-in_err-refuse_if-4 c = search rules

pub returns-in_err-refuse_if-5 : goal.returns-in_err-refuse_if-5
unfolding yard_checked bad_rest ranks_in ◌or_else◌
returns-in_err-refuse_if-5 c = search rules

pub returns-in_err-refuse_if-6 : goal.returns-in_err-refuse_if-6
unfolding yard_checked bad_rest ranks_in ◌or_else◌
returns-in_err-refuse_if-6 c = search rules

pub returns : goal.returns
unfolding yard_checked bad_rest ranks_in ◌or_else◌
returns c = search rules
