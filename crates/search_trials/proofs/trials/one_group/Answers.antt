-- The groups are compared as the definition compares them.
use mathlib.Core.Path.{refl}
use Rattle.search_trials.specs.Rows.{one_group}
use Rattle.search_trials.proofs.trials.one_group.Goals as goal

pub returns : goal.returns
unfolding one_group
returns c = refl
