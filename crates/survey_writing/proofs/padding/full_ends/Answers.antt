-- `survey_writing::padding::full_ends` meets its contract, which is that of `made_full`.
use Rattle.survey_roundtrip.specs.Columns.{ends_to}
use Rattle.survey_writing.proofs.padding.full_ends.Goals as goal

pub returns : goal.returns
unfolding ends_to
returns c = c.made_full.ensures
