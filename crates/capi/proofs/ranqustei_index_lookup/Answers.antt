-- `capi::ranqustei_index_lookup` meets its contract.
use mir.Facts.{to_z-of_z}
use Rattle.capi.proofs.ranqustei_index_lookup.Goals as goal

pub returns : goal.returns
returns c = let e = rw (to_z-of_z c.ranges.value) at c.found_plan.ensures in record { reply = e.reply; promised = e.promised }
