-- By the count.
use Rattle.trees_enumeration.specs.History.{groups_none, groups_some}
use Rattle.trees_enumeration.proofs.taken.Taken.groups.Goals as goal

pub returns-then-self-eq0 : goal.returns-then-self-eq0
returns-then-self-eq0 c = groups_none _ c.if-self-eq0.true c.new.ensures

pub returns : goal.returns
returns c = groups_some _ _ c.if-self-eq0.false
