-- The survey's check, the size of the tree buffer, then the question on its network.
use Rattle.std.proofs.Common.{◌≡◌, Err, arith, length, rules}
use Rattle.network.specs.Calls.{asked, says, tree_after}
use Rattle.network.proofs.AnswerPromise.{best-promised}
use Rattle.network.proofs.Cut.{cut-asked}
use Rattle.network.proofs.Resting.{working-few}
use Rattle.planner_best.specs.Best.{answer-after, asked-answer, asked-refused, asked-short, refused-after, short-after}
use Rattle.planner_best.proofs.best.Goals as goal

pub overflow_cast-net : goal.overflow_cast-net
overflow_cast-net c =
    let can = c.in-Ok.net.plannable in
    let t = can.tree in
    let few = working-few c.in-Ok.net.shape.n c.in-Ok.net.shape.rest in
    record { fits = omega (arith, can.fine.few-stations) }

pub returns-in-Err : goal.returns-in-Err
returns-in-Err c =
    let tree = c.args.tree.now in
    let e : says (Err c.in-Err.refusal) ≡ asked c.args.survey.now c.args.given (length tree) = asked-refused _ _ tree _ c.in-Err.ensures in
    let f = refused-after _ c.args.given tree _ c.in-Err.ensures in
    record { reply = e; leaves = f; promised = best-promised _ _ tree e f; noticed = cut-asked _ _ _ e }

pub returns-then-tree-net : goal.returns-then-tree-net
returns-then-tree-net c =
    let tree = c.args.tree.now in
    let read = c.in-Ok.ensures in
    let t = c.in-Ok.net.plannable.tree in
    let e : says (Err c.of.result) ≡ asked c.args.survey.now c.args.given (length tree) =
    rw c.of.ensures (asked-short _ _ tree read.checked _ read.network (omega arith)) in
    let f : tree ≡ tree_after c.args.survey.now c.args.given tree = short-after _ _ tree read.checked _ read.network (omega arith) in
    record { reply = e; leaves = f; promised = best-promised _ _ tree e f; noticed = cut-asked _ _ _ e }

pub returns-else-tree-net : goal.returns-else-tree-net
returns-else-tree-net c =
    let tree = c.args.tree.now in
    let read = c.in-Ok.ensures in
    let t = c.in-Ok.net.plannable.tree in
    let room = c.if-tree-net.false in
    let solved = c.solve.ensures in
    let e = asked-answer _ _ tree read.checked _ read.network _ (omega arith) solved.0 in
    let f = answer-after _ _ tree read.checked _ read.network _ (omega arith) solved.1 in
    record { reply = e; leaves = f; promised = best-promised _ _ tree e f; noticed = cut-asked _ _ _ e }
