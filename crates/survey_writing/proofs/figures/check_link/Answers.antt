-- `survey_writing::figures::check_link` meets its contract. The rules are tried in the order of the definition.
use Rattle.std.proofs.Common.{rules}
use Rattle.network.specs.Checked.{◌or_else◌}
use Rattle.network.specs.Writing.{link_figures_checked}
use Rattle.network.specs.Bytes.{bits_of}
use Rattle.survey_writing.proofs.figures.check_link.Goals as goal

pub returns-in_err-refuse_if : goal.returns-in_err-refuse_if
unfolding link_figures_checked ◌or_else◌ bits_of
returns-in_err-refuse_if c = search rules

pub returns : goal.returns
unfolding link_figures_checked ◌or_else◌ bits_of
returns c = search rules
