-- `planlist_records::records::plan_slots` meets its contract.
use native.Mathlib.Omega.{arith}
use borrow.Author.Tests.{le-leb, lt-leb}
use Rattle.network.specs.PlanList.{plan_slots}
use Rattle.network.specs.Survey.{narrow_slots}
use Rattle.planlist_records.proofs.records.plan_slots.Goals as goal

pub returns-then-p-le-NARROW_SLOTS : goal.returns-then-p-le-NARROW_SLOTS
unfolding plan_slots
returns-then-p-le-NARROW_SLOTS c = (rw (le-leb c.args.p narrow_slots (omega arith)), omega arith)

pub returns-else-p-le-NARROW_SLOTS : goal.returns-else-p-le-NARROW_SLOTS
unfolding plan_slots
returns-else-p-le-NARROW_SLOTS c = (rw (lt-leb c.args.p narrow_slots (omega arith)), omega arith)
