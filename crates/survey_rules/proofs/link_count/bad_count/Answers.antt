-- `survey_rules::link_count::bad_count` meets its contract. The count stands inside the yard record.
use Rattle.std.proofs.Common.{rules, tests}
use Rattle.survey_rules.specs.Given.{given-count}
use Rattle.survey_rules.proofs.link_count.bad_count.Goals as goal

pub returns : goal.returns
returns c = let e = c.is_some_and.ensures in given-count _ _ _ _ (search (rules, tests))
