use Rattle.std.proofs.Common.{refl, sym, ap, ◌∙◌, rules, arith}
use mir.Syntax.{w32}
use mir.ValLaws.{to_z-of_z}
use Rattle.network.specs.Column.{column}
use Rattle.network.proofs.Column.{column-more}
use Rattle.survey_roundtrip.specs.Columns.{sums_to}
use Rattle.survey_writing.proofs.padding.full_sums.Goals as goal

pub loop-i-init : goal.loop-i-init
unfolding sums_to column
loop-i-init c = refl

pub loop-i-preserved : goal.loop-i-preserved
unfolding sums_to
loop-i-preserved c =
    let read = c.sum_at in
    rw (c.loop-i.invariant, to_z-of_z w32 read.result (search rules), read.ensures) (sym (column-more _ _ _ _))

pub returns : goal.returns
returns c = c.loop-i.invariant ∙ ap (sums_to _ _ _) (omega arith)
