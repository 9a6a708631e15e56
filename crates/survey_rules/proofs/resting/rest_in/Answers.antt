-- `survey_rules::resting::rest_in` meets its contract. The bytes stand inside the yard record.
use Rattle.std.proofs.Common.{rules, tests}
use Rattle.survey_rules.specs.Given.{given-rest}
use Rattle.survey_rules.proofs.resting.rest_in.Goals as goal

pub returns : goal.returns
returns c = let e = c.map_or.ensures in given-rest _ _ _ (search (rules, tests))
