-- `survey_writing::figures::check_yard` meets its contract. The rules are tried in the order of the definition.
use Rattle.std.proofs.Common.{rules}
use Rattle.network.specs.Checked.{◌or_else◌}
use Rattle.network.specs.Writing.{yard_figures_checked}
use Rattle.survey_writing.proofs.figures.check_yard.Goals as goal

pub returns-in_err-refuse_if : goal.returns-in_err-refuse_if
unfolding yard_figures_checked ◌or_else◌
returns-in_err-refuse_if c = search rules

pub returns-in_err-refuse_if-2 : goal.returns-in_err-refuse_if-2
unfolding yard_figures_checked ◌or_else◌
returns-in_err-refuse_if-2 c = search rules

pub returns-in_err-refuse_if-3 : goal.returns-in_err-refuse_if-3
unfolding yard_figures_checked ◌or_else◌
returns-in_err-refuse_if-3 c = search rules

pub returns : goal.returns
unfolding yard_figures_checked ◌or_else◌
returns c = search rules
