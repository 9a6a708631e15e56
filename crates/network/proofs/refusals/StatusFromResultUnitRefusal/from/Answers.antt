-- The reply for C meets its contract. By what was found.
use Rattle.std.proofs.Common.{rules}
use Rattle.network.specs.Calls.{status}
use Rattle.network.proofs.refusals.StatusFromResultUnitRefusal.from.Goals as goal

pub returns-in-Ok : goal.returns-in-Ok
unfolding status
returns-in-Ok c = search rules

pub returns-in-Err : goal.returns-in-Err
unfolding status
returns-in-Err c = search rules
