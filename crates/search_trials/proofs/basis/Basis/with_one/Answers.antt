-- The base loses the link at the place that was found, and no other.
use Rattle.std.proofs.Common.{◌∙◌, arith}
use Rattle.search_trials.specs.Rows.{place-one}
use Rattle.search_trials.specs.Trials.{Ranges, one-ranges, one-stands}
use Rattle.search_trials.proofs.basis.Basis.with_one.Goals as goal
use Rattle.search_trials.proofs.basis.Basis.with_one.Goals.{After-sum_at-cost}

-- the sums and differences
ranges : (c : After-sum_at-cost) → let t = c.args.t in Ranges t.count t.sum c.sum_at-cost.result c.lost_at-lost.result
ranges c =
    let p = c.requires in
    one-ranges _ _ _ _ c.args.self.now.ready _ p.0 _ _ _ _ p.1 c.sum_at-cost.ensures c.lost_at-lost.ensures

pub overflow_sub-count : goal.overflow_sub-count
overflow_sub-count c = (ranges ((goal.at.overflow_sub-count c).After-sum_at-cost)).fewer

pub overflow_add-sum : goal.overflow_add-sum
overflow_add-sum c = let r = ranges ((goal.at.overflow_add-sum c).After-sum_at-cost) in omega arith

pub overflow_sub-sum : goal.overflow_sub-sum
overflow_sub-sum c = (ranges ((goal.at.overflow_sub-sum c).After-sum_at-cost)).cheaper

pub returns : goal.returns
returns c =
    let at = (goal.at.returns c).After-sum_at-cost in
    let ready = at.args.self.now.ready in
    let p = at.requires in
    let found = rw (c.ends_of-u.ensures.0, c.ends_of-u.ensures.1) at c.place_joined-place.ensures.place in
    one-stands _ _ _ _ ready _ p.0 _ _ _ _ p.1 c.sum_at-cost.ensures (found ∙ place-one _ _ _ ready.near ready.recorded _ p.0.within) c.lost_at-lost.ensures
