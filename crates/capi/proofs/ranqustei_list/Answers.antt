-- `capi::ranqustei_list` meets its contract: the reply says what the definition does.
use Rattle.std.proofs.Common.{ap, ◌∙◌}
use Rattle.network.specs.Calls.{list_status, status}
use Rattle.capi.proofs.ranqustei_list.Goals as goal

pub returns : goal.returns
unfolding list_status
returns c = let e = c.list.ensures in record { reply = c.from.ensures ∙ ap status e.reply; leaves = e.leaves; promised = rw c.from.ensures e.promised; noticed = rw c.from.ensures e.noticed }
