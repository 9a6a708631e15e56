-- `survey_writing::padding::made_full` meets its contract, entry by entry.
use Rattle.survey_writing.specs.Padded.{padded}
use Rattle.survey_writing.proofs.padding.made_full.Goals as goal

pub returns : goal.returns
returns g c = padded g.row.N c.args.missing c.args.given.now c.min-count.result c.copy_from_slice.new.self c.min-count.ensures c.copy_from_slice.ensures.after
