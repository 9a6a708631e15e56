-- `survey_writing::padding::full_costs` meets its contract, which is that of `made_full`.
use Rattle.survey_roundtrip.specs.Columns.{costs_to}
use Rattle.survey_writing.proofs.padding.full_costs.Goals as goal

pub returns : goal.returns
unfolding costs_to
returns c = c.made_full.ensures
