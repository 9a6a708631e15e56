-- `capi::ranqustei_write_survey` meets its contract: the reply says what the definition does.
use Rattle.std.proofs.Common.{ap, ◌∙◌}
use Rattle.network.specs.Calls.{status}
use Rattle.network.specs.Writing.{write_status}
use Rattle.capi.proofs.ranqustei_write_survey.Goals as goal

pub returns : goal.returns
unfolding write_status
returns c = let e = c.write_survey.ensures in record { reply = c.from.ensures ∙ ap status e.reply; leaves = e.leaves; promised = rw c.from.ensures e.promised }
