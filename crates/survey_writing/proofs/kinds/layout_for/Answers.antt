-- `survey_writing::kinds::layout_for` meets its contract, by its table.
use Rattle.survey_writing.specs.Found.{kind-laid}
use Rattle.survey_writing.proofs.kinds.layout_for.Goals as goal

pub returns : goal.returns
returns c = rw (c.unwrap_or.ensures, c.find_kind.ensures) (kind-laid c.args.kind)
