-- `walk_visit::taking::take_in` meets its contract: a plan is inserted, and without one nothing changes.
use Rattle.walk_visit.specs.Answered.{none-taken, plan-taken}
use Rattle.walk_visit.proofs.taking.take_in.Goals as goal

pub returns : goal.returns
returns c = let new = c.insert_plan.ensures in plan-taken c.in-Ok.is new.writable new.few new.records-are

pub returns-in_default : goal.returns-in_default
returns-in_default c = let a = c.args in none-taken a.slots a.links.now a.count a.out.now c.in_default.is
