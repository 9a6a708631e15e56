-- The place is one of the base's, or there is no link.
use Rattle.std.proofs.Common.{le_refl, ◌<◌, length}
use Rattle.kruskal.specs.Tree.{walk-usable}
use Rattle.search_trials.specs.Trials.{lost-here, lost-none}
use Rattle.search_trials.proofs.basis.Basis.lost_at.Goals as goal
use Rattle.search_trials.proofs.basis.Basis.lost_at.Goals.{In-Some}

within : (c : In-Some) → c.in-Some.k < length c.args.self.now.base.now
within c = rw c.in-Some.is at c.requires

pub sum_at-requires : goal.sum_at-requires
sum_at-requires c = (walk-usable c.args.self.now.ready.walk _ (within ((goal.at.sum_at-requires c).In-Some))).below

pub returns-in-None : goal.returns-in-None
returns-in-None c = rw c.in-None.is (lost-none _ _ _ (le_refl _))

pub returns-in-Some : goal.returns-in-Some
returns-in-Some c = rw c.in-Some.is (lost-here _ _ _ _ (within ((goal.at.returns-in-Some c).In-Some)) c.sum_at.ensures)
