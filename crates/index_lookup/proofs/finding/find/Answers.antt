-- `index_lookup::finding::find` meets its contract.
use Rattle.std.proofs.Common.{arith}
use mir.Facts.{to_z-of_z}
use Rattle.planlist_fetching.specs.Found.{whole}
use Rattle.index_lookup.proofs.finding.find.Goals as goal

pub read_u16-requires : goal.read_u16-requires
read_u16-requires c = omega (arith, (whole c.args.list.now c.requires).long)

pub returns-then-read_u16-le-SHORT : goal.returns-then-read_u16-le-SHORT
returns-then-read_u16-le-SHORT c = rw (to_z-of_z c.ranges.y) at c.find_held.ensures

pub find_held-requires-2 : goal.find_held-requires-2
find_held-requires-2 c = (c.requires, (whole c.args.list.now c.requires).few, omega arith)

pub returns : goal.returns
returns c = rw (to_z-of_z c.ranges.y) at c.find_held-2.ensures
