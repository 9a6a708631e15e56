-- Bytes that stand at their place already are not moved.
use Rattle.std.proofs.Common.{◌≡◌, ◌∙◌, ap, sym, arith, drop, take}
use Rattle.buffers.specs.Overwrite.{overwrite, overwrite-same}
use Rattle.buffers.proofs.moves.move_within.Goals as goal

pub returns-else-from-to : goal.returns-else-from-to
returns-else-from-to c =
    let a = c.args in
    let d = a.out.now in
    let e : a.from ≡ a.to = omega arith in
    sym (ap (λ i. overwrite d a.to (take a.n (drop i d))) e ∙ overwrite-same d a.to a.n (omega arith))
