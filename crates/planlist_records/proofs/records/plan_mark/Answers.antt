-- `planlist_records::records::plan_mark` meets its contract.
use native.Mathlib.Omega.{arith}
use borrow.Author.Tests.{le-leb, lt-leb}
use Rattle.network.specs.PlanList.{plan_mark}
use Rattle.network.specs.Survey.{narrow_slots}
use Rattle.planlist_records.proofs.records.plan_mark.Goals as goal

pub returns-then-slots-le-NARROW_SLOTS : goal.returns-then-slots-le-NARROW_SLOTS
unfolding plan_mark
returns-then-slots-le-NARROW_SLOTS c = rw (le-leb c.args.slots narrow_slots (omega arith))

pub returns-else-slots-le-NARROW_SLOTS : goal.returns-else-slots-le-NARROW_SLOTS
unfolding plan_mark
returns-else-slots-le-NARROW_SLOTS c = rw (lt-leb c.args.slots narrow_slots (omega arith))
