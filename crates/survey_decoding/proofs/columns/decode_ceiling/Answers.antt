use Rattle.std.proofs.Common.{pos, ◌∙◌, rules, tests}
use Rattle.network.specs.Survey.{ceiling_in}
use Rattle.survey_decoding.specs.Columns.{tabulated}
use Rattle.survey_decoding.proofs.columns.decode_ceiling.Goals as goal

pub returns : goal.returns
unfolding ceiling_in
returns c =
    let column = c.fill_column.new.column in
    tabulated (pos 0) _ c.args.records.m column (c.fill_column.auto.column ∙ c.requires.1) (λ i h. let e = c.fill_column.ensures i (pos 0) h in search (rules, tests))
