-- By the count.
use Rattle.trees_enumeration.specs.Taken.{none-last, some_last}
use Rattle.trees_enumeration.proofs.taken.Taken.leave.Goals as goal

pub returns-then-self-eq0-clause-link : goal.returns-then-self-eq0-clause-link
returns-then-self-eq0-clause-link c = none-last _ _ c.if-self-eq0.true

pub returns-clause-link : goal.returns-clause-link
returns-clause-link c = some_last _ _ c.if-self-eq0.false
