-- The survey is read, then the tree is tested, then its costs are taken.
use Rattle.std.proofs.Common.{◌≡◌, ◌∙◌, Err, rules, sym}
use Rattle.network.specs.Calls.{judged, says}
use Rattle.network.proofs.AnswerPromise.{judge-promised}
use Rattle.network.proofs.Cut.{cut-judged}
use Rattle.trees_costs.specs.TreeCosts.{costs-net, priceable, tree-links}
use Rattle.trees_drawn.specs.Drawn.{drawable}
use Rattle.planner_judge.specs.Judge.{judged-no-tree, judged-refused, judged-tree}
use Rattle.planner_judge.proofs.judge.Goals as goal

pub returns-in_err-net : goal.returns-in_err-net
returns-in_err-net c =
    let same : c.from_residual.result ≡ Err c.in_err-net.field-0.0 = search rules in
    let e : says c.from_residual.result ≡ judged c.args.survey.now c.args.drawn.now = rw same (judged-refused _ c.args.drawn.now _ c.in_err-net.ensures) in
    record { reply = e; promised = judge-promised _ _ e; noticed = cut-judged _ _ e }

pub is_tree-requires : goal.is_tree-requires
is_tree-requires c = drawable c.in_ok-net.net.plannable

pub tree_costs-requires : goal.tree_costs-requires
tree_costs-requires c =
    let can = c.in_ok-net.net.plannable in
    (can.fine.sum-count, priceable _ _ _ _ can _ (tree-links _ _ (sym c.is_tree.ensures ∙ c.if-is_tree.true)))

pub returns-then-is_tree : goal.returns-then-is_tree
returns-then-is_tree c =
    let read = c.in_ok-net.ensures in
    let tree = sym c.is_tree.ensures ∙ c.if-is_tree.true in
    let costs = c.tree_costs.ensures ∙ costs-net _ _ _ _ c.in_ok-net.net.plannable _ in
    let e = judged-tree _ _ read.checked _ read.network _ tree costs in
    record { reply = e; promised = judge-promised _ _ e; noticed = cut-judged _ _ e }

pub returns-else-is_tree : goal.returns-else-is_tree
returns-else-is_tree c =
    let read = c.in_ok-net.ensures in
    let e : says (Err c.of.result) ≡ judged c.args.survey.now c.args.drawn.now =
    rw c.of.ensures (judged-no-tree _ _ read.checked _ read.network (sym c.is_tree.ensures ∙ c.if-is_tree.false)) in
    record { reply = e; promised = judge-promised _ _ e; noticed = cut-judged _ _ e }
