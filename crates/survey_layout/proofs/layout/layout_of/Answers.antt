-- `survey_layout::layout::layout_of` meets its contract. No mark stands in fewer than two bytes.
use Rattle.std.proofs.Common.{sym, ◌∙◌, ap}
use Rattle.std.specs.Option.{unwrap_or}
use Rattle.network.specs.Survey.{layout_of, layouts, opens, plain}
use Rattle.network.proofs.Layouts.{layout-short}
use Rattle.survey_layout.specs.Rows.{found-roomy, row-found}
use Rattle.survey_layout.proofs.layout.layout_of.Goals as goal

pub returns-then-s-lt2 : goal.returns-then-s-lt2
returns-then-s-lt2 c = found-roomy _ _ (sym (layout-short _ c.if-s-lt2.true))

pub returns : goal.returns
unfolding layout_of
returns c =
    let s = c.args.s.now in
    found-roomy s _ (c.unwrap_or.ensures ∙ ap (λ o. unwrap_or o plain) c.find_opening.ensures ∙ row-found (opens s) layouts)
