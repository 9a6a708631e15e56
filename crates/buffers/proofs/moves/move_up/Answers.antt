use Rattle.std.proofs.Common.{◌+◌, ◌-◌, ◌∙◌, refl, ap, arith, length, length-set}
use Rattle.buffers.specs.Copies.{up_turn, up_none}
use Rattle.buffers.proofs.moves.move_up.Goals as goal

pub loop-j-init : goal.loop-j-init
loop-j-init c = (up_none _ _ _ _, refl)

pub loop-j-preserved : goal.loop-j-preserved
loop-j-preserved c =
    let l = c.loop-j in
    let a = c.args in (
      c.move_one.ensures ∙ up_turn a.out.now a.from a.to a.n l.j l.invariant.0 (omega arith) (omega arith) (omega arith) (omega arith),
      ap length c.move_one.ensures ∙ length-set l.out (a.to + (l.j - 1)) _ ∙ l.invariant.1,
    )
