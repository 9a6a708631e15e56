-- `survey_rules::link_records::check_link` meets its contract. The rules are tried in the order of the definition, on the fields of the record.
use Rattle.std.proofs.Common.{rules, arith}
use Rattle.std.proofs.lemmas.Grind.{common_steps}
use Rattle.network.specs.Checked.{◌or_else◌}
use Rattle.network.specs.Refusals.{link_checked}
use Rattle.survey_rules.proofs.link_records.check_link.Goals as goal

pub returns-in_err-refuse_if : goal.returns-in_err-refuse_if
unfolding link_checked ◌or_else◌
returns-in_err-refuse_if c = search rules

pub returns-in_err-refuse_if-2 : goal.returns-in_err-refuse_if-2
unfolding link_checked ◌or_else◌
returns-in_err-refuse_if-2 c = grind (arith, common_steps)

pub returns : goal.returns
unfolding link_checked ◌or_else◌
returns c = grind (arith, common_steps)
