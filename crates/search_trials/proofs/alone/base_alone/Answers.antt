-- By the test.
use mathlib.Core.Path.{◌∙◌}
use Rattle.std.proofs.Common.{Some, ap}
use Rattle.search_trials.specs.BaseAlone.{alone-leads, alone-short}
use Rattle.search_trials.specs.declared.best.Trial.{Trial}
use Rattle.search_trials.proofs.alone.base_alone.Goals as goal

pub returns-then-base-goal : goal.returns-then-base-goal
returns-then-base-goal c = ap (λ (t : Trial). Some t) c.trial_of.ensures ∙ alone-leads _ _ c.if-base-goal.true

pub returns-else-base-goal : goal.returns-else-base-goal
returns-else-base-goal c = alone-short _ _ c.if-base-goal.false
