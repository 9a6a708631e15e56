use Rattle.std.proofs.Common.{◌≡◌, ◌+◌, ◌∙◌, ap, arith, drop, length, length-drop, length-set}
use lib.Seq.{paste}
use Rattle.buffers.specs.Overwrite.{paste-overwrite}
use Rattle.buffers.specs.Copies.{paste-turn, down-reads}
use Rattle.buffers.proofs.moves.move_down.Goals as goal

pub loop-j-preserved : goal.loop-j-preserved
loop-j-preserved c =
    let l = c.loop-j in
    let a = c.args in
    let d = a.out.now in
    let len = length-drop a.from d in
    let reads = down-reads d a.from a.to l.j l.invariant.0 (omega arith) (omega arith) (omega arith) in (
      c.move_one.ensures ∙ paste-turn d a.to (drop a.from d) l.j 0 l.invariant.0 (omega arith) (omega arith) reads,
      ap length c.move_one.ensures ∙ length-set l.out (a.to + l.j) _ ∙ l.invariant.1,
    )

pub returns : goal.returns
returns c =
    let a = c.args in
    let d = a.out.now in
    let len = length-drop a.from d in
    let e : c.loop-j.j ≡ a.n = omega arith in
    c.loop-j.invariant.0 ∙ ap (paste d a.to (drop a.from d)) e ∙ paste-overwrite d a.to (drop a.from d) a.n (omega arith)
