-- The search leaves the best tree's links in the buffer; the answer is their costs.
use Rattle.std.proofs.Common.{Err, ◌≡◌, ◌∙◌, rules}
use Rattle.solver.specs.Question.{found_none, found-tree, front-answer, front-priceable}
use Rattle.solver.proofs.question.solve.Goals as goal

pub costs_with-requires : goal.costs_with-requires
costs_with-requires c =
    let w = found-tree _ _ c.best_links.ensures.0 c.in_ok-sum.ensures.ok_part in
    front-priceable _ _ _ _ _ c.args.net.plannable w.0 w.1 _ c.best_links.ensures.1 w.2

pub returns-in_err-sum : goal.returns-in_err-sum
returns-in_err-sum c =
    let same : c.from_residual.result ≡ Err c.in_err-sum.field-0.0 = search rules in
    let none = c.in_err-sum.ensures.ok_part in
    let held = rw none at c.in_err-sum.ensures.value in
    let is : c.in_err-sum.field-0.0 ≡ c.of.result = cc in
    ((rw (is, c.of.ensures) at same) ∙ found_none _ _ c.best_links.ensures.0 _ none, c.best_links.ensures.1)

pub returns : goal.returns
returns c =
    let w = found-tree _ _ c.best_links.ensures.0 c.in_ok-sum.ensures.ok_part in
    (front-answer _ _ _ _ _ c.args.net.plannable w.0 w.1 _ c.best_links.ensures.1 w.2 c.costs_with.ensures, c.best_links.ensures.1)
