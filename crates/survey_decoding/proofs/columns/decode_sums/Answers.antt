use Rattle.std.proofs.Common.{◌≡◌, ◌∙◌, rules, tests, length, length-take-le, take_at}
use Rattle.network.specs.Survey.{sums_in}
use Rattle.survey_decoding.specs.Columns.{tabulated}
use Rattle.survey_decoding.proofs.columns.decode_sums.Goals as goal

pub returns : goal.returns
unfolding sums_in
returns c =
    let column = c.fill_column.new.column in
    let size : length column ≡ c.args.records.m = c.fill_column.auto.column ∙ length-take-le _ c.args.sums.now (c.requires.1) in
    take_at column _ c.args.records.m size
    ∙ tabulated 0 _ c.args.records.m column size (λ i h. let e = c.fill_column.ensures i 0 h in search (rules, tests))
