-- `capi::ranqustei_index` meets its contract: the reply says what the definition does.
use Rattle.std.proofs.Common.{ap, ◌∙◌}
use Rattle.network.specs.Calls.{status}
use Rattle.network.specs.Indexing.{index_status}
use Rattle.capi.proofs.ranqustei_index.Goals as goal

pub returns : goal.returns
unfolding index_status
returns c = let e = c.index.ensures in record { reply = c.from.ensures ∙ ap status e.reply; leaves = e.leaves; promised = rw c.from.ensures e.promised }
