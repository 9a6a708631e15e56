-- The fields are those of the definition.
use mathlib.Core.Path.{refl}
use Rattle.search_trials.specs.BaseAlone.{trial_alone}
use Rattle.search_trials.proofs.alone.trial_of.Goals as goal

pub returns : goal.returns
unfolding trial_alone
returns c = refl
