use Rattle.std.proofs.Common.{◌<◌, ◌≤◌, ◌≡◌, [], ◌∷◌, arith, get_or, length, IfSome}
use Rattle.order.proofs.Lists.{get_or-mem}
use Rattle.search_trials.specs.Marks.{Flagged}
use Rattle.search_trials.specs.Search.{tried}
use Rattle.search_trials.specs.Stands.{best_by}
use Rattle.search_trials.specs.Trials.{Joining, one-tried}
use Rattle.search.specs.Begun.{joining-at, turned}
use Rattle.search.specs.Loops.{admitted-tried, place-list, place-tryable, sets_end, sets-start, sets-turn}
use Rattle.search.proofs.under_way.Search.consider_sets.Goals as goal
use Rattle.search.proofs.under_way.Search.consider_sets.Goals.{In-loop-i, After-compete}

-- the link of a turn
link : (c : In-loop-i) → Joining c.args.self.now.basis.ends.now c.args.self.now.basis.sums.now (get_or c.args.odd.now c.loop-i.i 0)
link c = joining-at c.requires.1 c.loop-i.i (omega arith)

-- the set of the link alone has its turn
alone : (c : After-compete) (joining : Joining c.args.self.now.basis.ends.now c.args.self.now.basis.sums.now (get_or c.args.odd.now c.loop-i.i 0))
    → let s = c.args.self.now in
    let v = c.loop-i in
    (best_by s.basis.base.now c.compete.new.best
    ≡ tried s.basis.ends.now s.basis.sums.now s.goal s.basis.base.now (best_by s.basis.base.now v.best) (get_or c.args.odd.now v.i 0 ∷ []))
    × IfSome c.compete.new.best Flagged
alone c joining =
    let one = c.with_one-one.ensures in
    turned _ _ _ c.compete.ensures one.stands c.loop-i.invariant.0 one.flagged (one-tried _ _ _ _ _ joining)

pub loop-i-init : goal.loop-i-init
loop-i-init c = (c.requires.4, sets-start _ _ _ _ _ _ _ _)

pub with_one-one-requires : goal.with_one-one-requires
with_one-one-requires c = (link ((goal.at.with_one-one-requires c).In-loop-i), c.args.self.now.base_alone)

pub compete-requires : goal.compete-requires
compete-requires c = (c.loop-i.invariant.0, c.with_one-one.ensures.flagged)

pub consider_pairs-best-requires : goal.consider_pairs-best-requires
consider_pairs-best-requires c =
    let turn = (goal.at.consider_pairs-best-requires c).In-loop-i in
    let p = c.requires in (
      p.0,
      rw (place-list c.args.odd.now c.loop-i.i (omega arith)) (place-tryable _ p.1),
      p.3,
      c.with_one-one.ensures,
      (alone ((goal.at.consider_pairs-best-requires c).After-compete) (link turn)).1,
    )

pub loop-i-preserved : goal.loop-i-preserved
loop-i-preserved c =
    let turn = (goal.at.loop-i-preserved c).In-loop-i in
    let v = c.loop-i.invariant in
    let within : c.loop-i.i < length c.args.odd.now = omega arith in
    let fit = c.requires.2.alone _ (get_or-mem _ _ 0 within) in
    let one = admitted-tried _ _ _ _ _ _ _ _ _ fit (alone ((goal.at.loop-i-preserved c).After-compete) (link turn)).0 in
    let pairs = rw (place-list c.args.odd.now c.loop-i.i within) at c.consider_pairs-best.ensures.0 in
    (c.consider_pairs-best.ensures.1, sets-turn _ _ _ _ _ _ _ _ _ _ _ _ within v.1 one pairs)

pub returns : goal.returns
returns c =
    let v = c.loop-i.invariant in
    let all : length c.args.odd.now ≤ c.loop-i.i = omega arith in
    (sets_end _ _ _ _ _ _ _ _ _ _ all v.1, v.0)
