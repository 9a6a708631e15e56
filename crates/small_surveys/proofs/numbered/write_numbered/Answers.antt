-- `small_surveys::numbered::write_numbered` meets its contract: the yard record and then the link records are the survey.
use borrow.Author.Rules.{rules}
use Rattle.survey_roundtrip.specs.Layouts.{plain-writable}
use Rattle.small_surveys.specs.Numbered.{numbered-written}
use Rattle.small_surveys.proofs.numbered.write_numbered.Goals as goal

pub write_yard-requires : goal.write_yard-requires
write_yard-requires c = (plain-writable, search rules, search rules)

pub returns : goal.returns
returns c =
    numbered-written _ (search rules) _ c.write_yard.ensures c.write_choices.ensures
