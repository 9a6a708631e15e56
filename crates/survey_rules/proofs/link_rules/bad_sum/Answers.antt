-- `survey_rules::link_rules::bad_sum` meets its contract. The limits are those of the definition.
use Rattle.std.proofs.Common.{arith}
use Rattle.std.proofs.lemmas.Grind.{common_steps}
use Rattle.network.specs.Refusals.{bad_sum}
use Rattle.survey_rules.proofs.link_rules.bad_sum.Goals as goal

pub returns : goal.returns
unfolding bad_sum
returns c = grind (arith, common_steps, c.contains.ensures.cases, c.contains.ensures.value, c.new.ensures.start, c.new.ensures.end)
