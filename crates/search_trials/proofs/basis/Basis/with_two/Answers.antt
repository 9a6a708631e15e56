-- Beside the first exception the base loses the link at the place that was found.
use Rattle.std.proofs.Common.{◌≡◌, ◌∙◌, arith}
use Rattle.spanning.specs.Tree.{identity}
use Rattle.spanning.specs.Lost.{lost_two}
use Rattle.network.specs.Yard.{ends_at}
use Rattle.search_trials.specs.Rows.{place-two}
use Rattle.search_trials.specs.Stands.{place_of}
use Rattle.search_trials.specs.Trials.{Ranges, joining-flag, two-ranges, two-stands}
use Rattle.search_trials.proofs.basis.Basis.with_two.Goals as goal
use Rattle.search_trials.proofs.basis.Basis.with_two.Goals.{After-sum_at-cost}

-- the place that was found
place : (c : After-sum_at-cost)
    → let i = c.args in
    let ends = ends_at i.self.now.ends.now in
    place_of i.self.now.base.now c.place_beside-beside.result ≡ lost_two ends identity i.self.now.base.now (ends i.link) (ends i.other)
place c =
    let p = c.requires in
    let ready = c.args.self.now.ready in
    rw (c.ends_of-a.ensures.0, c.ends_of-a.ensures.1, c.ends_of-u.ensures.0, c.ends_of-u.ensures.1) at c.place_beside-beside.ensures.place
    ∙ place-two _ _ _ ready.near ready.recorded _ _ p.0.within p.1.within

-- the sums and differences
ranges : (c : After-sum_at-cost) → let t = c.args.t in Ranges t.count t.sum c.sum_at-cost.result c.lost_at-lost.result
ranges c =
    let p = c.requires in
    two-ranges _ _ _ _ c.args.self.now.ready _ _ p.0 p.1 p.3 _ _ _ _ p.2 c.sum_at-cost.ensures (place c) c.lost_at-lost.ensures

pub overflow_add-count : goal.overflow_add-count
overflow_add-count c = let r = ranges ((goal.at.overflow_add-count c).After-sum_at-cost) in omega arith

pub overflow_sub-count : goal.overflow_sub-count
overflow_sub-count c = (ranges ((goal.at.overflow_sub-count c).After-sum_at-cost)).fewer

pub overflow_add-sum : goal.overflow_add-sum
overflow_add-sum c = let r = ranges ((goal.at.overflow_add-sum c).After-sum_at-cost) in omega arith

pub overflow_sub-sum : goal.overflow_sub-sum
overflow_sub-sum c = (ranges ((goal.at.overflow_sub-sum c).After-sum_at-cost)).cheaper

pub returns : goal.returns
returns c =
    let at = (goal.at.returns c).After-sum_at-cost in
    let ready = at.args.self.now.ready in
    let p = at.requires in
    let stands = two-stands _ _ _ _ ready _ _ p.0 p.1 p.3 _ _ _ _ p.2 c.sum_at-cost.ensures (place at) c.lost_at-lost.ensures in
    (stands, record { set = (joining-flag ready.columns p.0, joining-flag ready.columns p.1) })
