-- The base from the normal links, the search that stands on it, and the flags of the tree that it ends with.
use Rattle.std.proofs.Common.{Some, None, refl, arith}
use Rattle.trees_costs.specs.Added.{sum_of}
use Rattle.order.specs.Lists.{filter}
use Rattle.kruskal.specs.Base.{Based}
use Rattle.exceptions.specs.Patterns.{normal}
use Rattle.search_trials.specs.BaseAlone.{lead-flagged}
use Rattle.solver.specs.Assembled.{assembled, base-distinct, base-in-order, base-ready, base-trial, found-reports, none-reports}
use Rattle.solver.specs.Assembled.{normals-in-order, normals-joinable}
use Rattle.solver.proofs.by_patterns.best_of.Goals as goal
use Rattle.solver.proofs.by_patterns.best_of.Goals.{After-put_base-kept}

pub put_normal-n-requires : goal.put_normal-n-requires
put_normal-n-requires c =
    let p = c.requires in
    record { known = λ e m. omega (arith, (p.1.walkable.usable e m).below, p.2.size); room = omega (arith, p.1.walkable.few) }

pub put_base-kept-requires : goal.put_base-kept-requires
put_base-kept-requires c =
    let p = c.requires in
    let v = normals-in-order _ p.1 in
    rw c.put_normal-n.ensures.links
    (p.0, v.walkable, normals-joinable _ p.3, omega (arith, v.walkable.few), omega (arith, p.3.held))

-- the links that are kept of the normal ones, and the groups after each
based : (c : After-put_base-kept)
    → let i = c.args in
    Based i.ends.now i.sums.now (filter (normal i.patterns.now) i.order.now) i.goal c.put_base-kept.new.base
    c.put_base-kept.new.history c.put_base-kept.result
based c = rw c.put_normal-n.ensures.links at c.put_base-kept.ensures

pub invariant_of-basis : goal.invariant_of-basis
invariant_of-basis c =
    let p = c.requires in
    let base = based ((goal.at.invariant_of-basis c).After-put_base-kept) in
    let v = normals-in-order _ p.1 in
    let j = normals-joinable _ p.3 in
    record { ready = base-ready p.0 v j base }

pub rest_of-requires : goal.rest_of-requires
unfolding sum_of
rest_of-requires c =
    let base = based ((goal.at.rest_of-requires c).After-put_base-kept) in
    rw base.links base.total

pub invariant_of-s : goal.invariant_of-s
invariant_of-s c =
    let p = c.requires in
    let base = based ((goal.at.invariant_of-s c).After-put_base-kept) in
    let v = normals-in-order _ p.1 in
    let j = normals-joinable _ p.3 in
    record {
      sorted = rw base.links (base-in-order p.0 v j).sorted;
      distinct = rw base.links (base-distinct p.0 v j);
      base_alone = rw base.links (base-trial base c.trial_of.ensures);
      beside = c.rest_of.ensures;
    }

pub best_from-requires : goal.best_from-requires
best_from-requires c =
    let p = c.requires in
    (p.2, p.1, p.3, c.slack_of-largest.ensures, omega (arith, c.slack_of-largest.ensures, p.4), rw c.base_alone.ensures (lead-flagged _ _))

pub put_flags-requires : goal.put_flags-requires
put_flags-requires c =
    let at = (goal.at.put_flags-requires c).After-put_base-kept in
    let p = at.requires in
    let base = based at in
    (p.5, rw base.links (base-distinct p.0 (normals-in-order _ p.1) (normals-joinable _ p.3)), c.in_ok-best.ensures.1)

pub returns-in_err-best : goal.returns-in_err-best
returns-in_err-best c =
    let base = based ((goal.at.returns-in_err-best c).After-put_base-kept) in
    rw c.from_residual.ensures (none-reports c.put_base-kept.new.base (assembled _ _ _ _ _ _ c.requires.2 None base c.base_alone.ensures (rw base.links at c.in_err-best.ensures.0)) _ refl)

pub returns : goal.returns
returns c =
    let base = based ((goal.at.returns c).After-put_base-kept) in
    found-reports _ (assembled _ _ _ _ _ _ c.requires.2 (Some c.in_ok-best.best) base c.base_alone.ensures (rw base.links at c.in_ok-best.ensures.0)) refl
    (rw base.links at c.put_flags.ensures)
