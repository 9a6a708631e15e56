-- `planlist_records::records::write_ceilings` meets its contract. The invariant: the first i costs are written.
use mathlib.Core.Path.{◌≡◌}
use lib.ListN.{length}
use Rattle.encoding.specs.Fields.{Written}
use Rattle.planlist_records.specs.Records.{cost_bytes}
use Rattle.planlist_records.proofs.records.write_ceilings.Given as goal

abbrev pub invariant-loop-i : goal.invariant-loop-i
invariant-loop-i l = Written cost_bytes l.y l.at l.initial.out l.out l.i × (length l.out ≡ length l.initial.out)
