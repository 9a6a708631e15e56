-- By what was found.
use Rattle.capi_replies.specs.Flat.{flat-plan, flat-refused}
use Rattle.capi_replies.proofs.found.FoundPlanFromResultU16Refusal.from.Goals as goal

pub returns-in-Ok : goal.returns-in-Ok
returns-in-Ok c = flat-plan _ c.in-Ok.plan c.in-Ok.is

pub returns-in-Err : goal.returns-in-Err
returns-in-Err c = rw c.number.ensures (flat-refused _ c.in-Err.refusal c.in-Err.is)
