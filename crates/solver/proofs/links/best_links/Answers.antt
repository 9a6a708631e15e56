-- A tree was found or not; its links go to the buffer.
use Rattle.std.proofs.Common.{refl, arith}
use native.Mathlib.Nat.{le_of_eq}
use Rattle.solver.specs.Answer.{answer-none, answer-size, answer-tells, answer-tree}
use Rattle.solver.proofs.links.best_links.Goals as goal

pub best_in_order-requires : goal.best_in_order-requires
best_in_order-requires c = (c.requires.0, c.requires.1, refl)

pub returns-in_err-sum : goal.returns-in_err-sum
returns-in_err-sum c =
    let fine = c.args.net.plannable.fine in
    let p = c.requires in
    let e = c.in_err-sum.ensures in
    rw c.from_residual.ensures (answer-tells _ fine _ p.1 e, answer-none _ fine _ p.1 e _ refl)

pub put_links-requires : goal.put_links-requires
put_links-requires c =
    let can = c.args.net.plannable in
    let p = c.requires in
    (answer-size _ can.fine _ p.1 c.in_ok-sum.ensures _ can.tree refl, p.2, le_of_eq c.best_in_order.auto.taken)

pub returns : goal.returns
returns c =
    let can = c.args.net.plannable in
    let p = c.requires in
    let e = c.in_ok-sum.ensures in
    (answer-tells _ can.fine _ p.1 e, answer-tree _ can.fine _ p.1 e _ _ refl (omega (arith, can.tree, p.2)) c.put_links.ensures)
