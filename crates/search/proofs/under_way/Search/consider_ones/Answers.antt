use Rattle.std.proofs.Common.{◌≡◌, refl, sym, ◌∙◌, arith, get_or}
use Rattle.search_trials.specs.Rest.{by-loses, least_fits, rest_of}
use Rattle.search_trials.specs.Trials.{Joining, one-tried}
use Rattle.search.specs.Begun.{joining-at, turned}
use Rattle.search.specs.Loops.{ones-end, ones-lose, ones-turn}
use Rattle.search.proofs.under_way.Search.consider_ones.Goals as goal
use Rattle.search.proofs.under_way.Search.consider_ones.Goals.{In-loop-i}

-- the link of a turn
link : (c : In-loop-i) → Joining c.args.self.now.basis.ends.now c.args.self.now.basis.sums.now (get_or c.args.odd.now c.loop-i.i 0)
link c = joining-at c.requires.0 c.loop-i.i (omega arith)

-- what is left of the base beside it
rest : (c : In-loop-i) → let s = c.args.self.now in s.rest ≡ rest_of s.basis.sums.now s.basis.base.now s.goal 1
rest c = rw c.requires.1 at c.args.self.now.beside

pub loop-i-init : goal.loop-i-init
loop-i-init c = (c.requires.2, refl)

pub sum_at-requires : goal.sum_at-requires
sum_at-requires c = (link ((goal.at.sum_at-requires c).In-loop-i)).usable.below

pub loses-requires : goal.loses-requires
loses-requires c =
    let at = (goal.at.loses-requires c).In-loop-i in
    rw (rest at) (least_fits _ _ at.args.self.now.basis.ready.walk _ 1 _ (omega (arith, (link at).usable.cheap, c.sum_at.ensures)))

pub returns-then-loses : goal.returns-then-loses
returns-then-loses c =
    let at = (goal.at.returns-then-loses c).In-loop-i in
    let v = c.loop-i.invariant in
    let lost = by-loses c.args.self.now.basis.base.now c.loop-i.best c.args.self.now.rest c.sum_at.result (sym c.loses.ensures ∙ c.if-loses.true) in
    (ones-lose _ _ _ _ at.args.self.now.sorted _ _ _ _ _ _ at.requires.0.order.sorted (omega arith) (rest at) c.sum_at.ensures lost v.1, v.0)

pub with_one-trial-requires : goal.with_one-trial-requires
with_one-trial-requires c =
    let at = (goal.at.with_one-trial-requires c).In-loop-i in
    (link at, at.args.self.now.base_alone)

pub compete-requires : goal.compete-requires
compete-requires c = (c.loop-i.invariant.0, c.with_one-trial.ensures.flagged)

pub loop-i-preserved : goal.loop-i-preserved
loop-i-preserved c =
    let at = (goal.at.loop-i-preserved c).In-loop-i in
    let v = c.loop-i.invariant in
    let one = c.with_one-trial.ensures in
    let next = turned _ _ _ c.compete.ensures one.stands v.0 one.flagged (one-tried _ _ _ _ _ (link at)) in
    (next.1, ones-turn _ _ _ _ _ _ _ _ _ (omega arith) v.1 next.0)

pub returns : goal.returns
returns c = let v = c.loop-i.invariant in (ones-end _ _ _ _ _ _ _ _ (omega arith) v.1, v.0)
