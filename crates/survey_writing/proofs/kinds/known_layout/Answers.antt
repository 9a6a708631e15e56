-- `survey_writing::kinds::known_layout` meets its contract, by its table.
use Rattle.survey_writing.specs.Found.{kind-found}
use Rattle.survey_writing.proofs.kinds.known_layout.Goals as goal

pub returns : goal.returns
returns c = rw c.find_kind.ensures (kind-found c.args.kind)
