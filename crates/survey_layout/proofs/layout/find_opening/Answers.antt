-- `survey_layout::layout::find_opening` meets its contract: the closure computes the test.
use Rattle.std.proofs.Common.{◌∙◌, rules, tests}
use Rattle.std.proofs.lemmas.Iterator.{YieldsList-from_slice}
use Rattle.std.proofs.lemmas.Iterator.Search.{find_from_yields_List}
use Rattle.network.specs.Survey.{opens}
use Rattle.survey_layout.proofs.layout.find_opening.Goals as goal

pub returns : goal.returns
returns c =
    let s = c.args.s.now in
    c.copied.ensures ∙ find_from_yields_List (opens s) _ _ c.find.result c.find.ensures.ran (YieldsList-from_slice c.args.layouts.now cc) (λ x b q k. search (rules, tests))
