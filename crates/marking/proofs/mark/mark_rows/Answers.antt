-- `marking::mark::mark_rows` meets its contract.
use Rattle.std.proofs.Common.{[], ◌∷◌, ◌-◌, arith, sym, ◌∙◌}
use Rattle.marking.specs.Paint.{paint, row-turn, side, sweep-end}
use Rattle.marking.proofs.mark.mark_rows.Goals as goal

pub loop-row-preserved : goal.loop-row-preserved
loop-row-preserved c =
    let a = c.args in
    let l = c.loop-row in (
      c.mark_row.auto.marks ∙ l.invariant.0,
      row-turn (paint (side 1 a.n ∷ [])) a.rows.stride l.row a.rows.count a.start l.marks c.loop-row-test.true c.mark_row.ensures ∙ l.invariant.1,
    )

pub returns : goal.returns
returns c =
    let a = c.args in
    let l = c.loop-row in
    sym (sweep-end (paint (side 1 a.n ∷ [])) a.rows.stride (a.rows.count - l.row) _ l.marks (omega arith)) ∙ l.invariant.1
