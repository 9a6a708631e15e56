-- `index_building::building::build` meets its contract.
use Rattle.std.proofs.Common.{arith}
use Rattle.planlist_fetching.specs.Found.{whole}
use Rattle.index_building.proofs.building.build.Goals as goal

pub read_u16-requires : goal.read_u16-requires
read_u16-requires c = omega (arith, (whole c.args.list.now c.requires).long)

pub build_held-requires-2 : goal.build_held-requires-2
build_held-requires-2 c = (c.requires, (whole c.args.list.now c.requires).few, omega (arith, (whole c.args.list.now c.requires).few), omega arith, omega arith)
