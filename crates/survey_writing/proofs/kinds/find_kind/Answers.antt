-- `survey_writing::kinds::find_kind` meets its contract: the closure computes the test.
use Rattle.std.proofs.Common.{◌∙◌, rules, tests}
use Rattle.std.proofs.lemmas.Iterator.{YieldsList-from_slice}
use Rattle.std.proofs.lemmas.Iterator.Search.{find_from_yields_List}
use Rattle.network.specs.Writing.{is_of_kind}
use Rattle.survey_writing.proofs.kinds.find_kind.Goals as goal

pub returns : goal.returns
returns c =
    c.copied.ensures
    ∙ find_from_yields_List (is_of_kind c.args.kind) _ _ c.find.result c.find.ensures.ran (YieldsList-from_slice c.args.layouts.now cc)
    (λ x b q k. search (rules, tests))
