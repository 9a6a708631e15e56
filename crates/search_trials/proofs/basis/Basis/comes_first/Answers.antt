-- Either trial's links have their flags, and these are compared.
use mathlib.Core.Path.{ap₂, ◌∙◌}
use Rattle.search_trials.specs.Chosen.{first_by}
use Rattle.search_trials.specs.Flags.{first}
use Rattle.search_trials.proofs.basis.Basis.comes_first.Goals as goal

pub returns : goal.returns
unfolding first_by
returns c =
    c.first_tree.ensures
    ∙ ap₂ first c.put_flags.ensures c.put_flags-2.ensures
