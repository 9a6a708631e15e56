use Rattle.std.proofs.Common.{suc, ◌+◌, ◌*◌, ◌≤◌, ◌<◌, ◌≡◌, ◌∷◌, refl, sym, ap, ◌∙◌, arith, get_or, length}
use Rattle.network.specs.Capacities.{sum_held}
use Rattle.search_trials.specs.Rest.{by-loses, least_fits, rest_of}
use Rattle.search_trials.specs.Stands.{best_by}
use Rattle.search_trials.specs.Trials.{Joining}
use Rattle.search.specs.Begun.{fitting-ringless, joining-at, turned}
use Rattle.search.specs.Loops.{pair_left, pair-tried, pairs_end, pairs-lose, pairs-turn}
use Rattle.search.proofs.under_way.Search.consider_pairs.Goals as goal
use Rattle.search.proofs.under_way.Search.consider_pairs.Goals.{Start, In-loop-other, After-sum_at, then-fit_together, else-fit_together}

-- the first link of each pair
first : (c : Start) → Joining c.args.self.now.basis.ends.now c.args.self.now.basis.sums.now c.args.link
first c = joining-at c.requires.1 0 (omega arith)

-- the place of the other in the list
within : (c : In-loop-other) → suc c.loop-other.other-index < length (c.args.link ∷ c.args.later.now)
within c = omega arith

-- the other
other : (c : In-loop-other) → Joining c.args.self.now.basis.ends.now c.args.self.now.basis.sums.now (get_or c.args.later.now c.loop-other.other-index 0)
other c = joining-at c.requires.1 (suc c.loop-other.other-index) (within c)

-- what is left of the base beside both
rest : (c : Start) → let s = c.args.self.now in s.rest ≡ rest_of s.basis.sums.now s.basis.base.now s.goal 2
rest c = rw c.requires.2 at c.args.self.now.beside

-- both costs are in range
costs : (c : After-sum_at) → c.sum_at-cost.result + c.sum_at.result ≤ 2 * sum_held
costs c =
    let first = joining-at c.requires.1 0 (omega arith) in
    let other = joining-at c.requires.1 (suc c.loop-other.other-index) (omega arith) in
    omega (arith, first.usable.cheap, other.usable.cheap, c.sum_at-cost.ensures, c.sum_at.ensures)

pub sum_at-cost-requires : goal.sum_at-cost-requires
sum_at-cost-requires c = (first ((goal.at.sum_at-cost-requires c).Start)).usable.below

pub loop-other-init : goal.loop-other-init
loop-other-init c = (c.requires.4, refl)

pub sum_at-requires : goal.sum_at-requires
sum_at-requires c = (other ((goal.at.sum_at-requires c).In-loop-other)).usable.below

pub overflow_add-cost : goal.overflow_add-cost
overflow_add-cost c = record { fits = omega (arith, costs ((goal.at.overflow_add-cost c).After-sum_at)) }

pub loses-requires : goal.loses-requires
loses-requires c =
    rw (rest ((goal.at.loses-requires c).Start)) (least_fits _ _ c.args.self.now.basis.ready.walk _ 2 _ (costs ((goal.at.loses-requires c).After-sum_at)))

pub returns-then-loses : goal.returns-then-loses
returns-then-loses c =
    let v = c.loop-other.invariant in
    let lost = by-loses c.args.self.now.basis.base.now c.loop-other.best c.args.self.now.rest (c.sum_at-cost.result + c.sum_at.result) (sym c.loses.ensures ∙ c.if-loses.true) in (
      pairs-lose _ _ _ _ _ _ c.args.self.now.sorted _ _ _ _ _ _ _ c.requires.1.order.sorted (within ((goal.at.returns-then-loses c).In-loop-other))
          (rest ((goal.at.returns-then-loses c).Start)) c.sum_at-cost.ensures c.sum_at.ensures lost v.1,
      v.0,
    )

pub fit_together-requires : goal.fit_together-requires
fit_together-requires c =
    (c.requires.0, (first ((goal.at.fit_together-requires c).Start)).usable.below, (other ((goal.at.fit_together-requires c).In-loop-other)).usable.below)

pub with_two-two-requires : goal.with_two-two-requires
with_two-two-requires c =
    let ringless = fitting-ringless _ _ _ _ _ _ (sym c.fit_together.ensures ∙ c.if-fit_together.true) in
    (first ((goal.at.with_two-two-requires c).Start), other ((goal.at.with_two-two-requires c).In-loop-other), c.requires.3, ringless)

pub compete-requires : goal.compete-requires
compete-requires c = (c.loop-other.invariant.0, c.with_two-two.ensures.1)

pub loop-other-preserved : goal.loop-other-preserved
loop-other-preserved c =
    let one = first ((goal.at.loop-other-preserved c).Start) in
    let turn = (goal.at.loop-other-preserved c).In-loop-other in
    let two = other turn in
    let v = c.loop-other.invariant in
    let fit = c.fit_together.ensures in
    let later : suc c.loop-other.other-index + 1 ≡ suc (c.loop-other.other-index + 1) = omega arith in
    let go = pairs-turn _ _ _ _ _ _ _ _ _ _ _ _ (within turn) v.1 refl in
    elim c.if-fit_together.branch [
      | then-fit_together w ↦
          let next = turned _ _ _ (w.best-is ∙ w.compete.ensures) w.with_two-two.ensures.0 v.0 w.with_two-two.ensures.1
          (pair-tried _ _ _ _ _ _ _ _ one two (sym fit ∙ w.if-fit_together.true)) in
          (next.1, rw later at (go next.0))
      | else-fit_together w ↦
          let left = pair_left _ _ _ _ _ _ _ _ one two (sym fit ∙ w.if-fit_together.false) in
          (rw w.best-is v.0, rw later at (go (ap (best_by _) w.best-is ∙ left)))
    ]

pub returns : goal.returns
returns c = let v = c.loop-other.invariant in (pairs_end _ _ _ _ _ _ _ _ _ _ (omega arith) v.1, v.0)
