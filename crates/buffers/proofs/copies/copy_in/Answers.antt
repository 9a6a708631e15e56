use Rattle.std.proofs.Common.{◌+◌, ◌∙◌, arith, length-set}
use Rattle.buffers.specs.Copies.{paste-turn, paste_all}
use Rattle.buffers.proofs.copies.copy_in.Goals as goal

pub loop-j-preserved : goal.loop-j-preserved
loop-j-preserved g c =
    let l = c.loop-j in
    let a = c.args in
    let turn = paste-turn a.out.now a.at a.src.now l.j c.index-src-j.result l.invariant.0 (omega arith) (omega arith) c.index-src-j.is in
    (turn, length-set l.out (a.at + l.j) c.index-src-j.result ∙ l.invariant.1)

pub returns : goal.returns
returns g c =
    let a = c.args in
    c.loop-j.invariant.0 ∙ paste_all a.out.now a.at a.src.now c.loop-j.j (omega arith)
