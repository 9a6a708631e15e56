-- The row in front of the end, or no row.
use Rattle.forest.specs.History.{groups_none, groups-row}
use Rattle.forest.proofs.groups_after.Goals as goal

pub returns-then-count-eq0 : goal.returns-then-count-eq0
returns-then-count-eq0 c = groups_none _ c.if-count-eq0.true c.new.ensures

pub returns : goal.returns
returns c = groups-row _ _ c.if-count-eq0.false c.copy_from_slice.ensures.after
