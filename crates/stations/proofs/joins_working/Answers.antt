-- `stations::joins_working` meets its contract.
use Rattle.network.specs.Yard.{joins_working}
use Rattle.stations.proofs.joins_working.Goals as goal

pub returns : goal.returns
unfolding joins_working
returns c = rw (c.station_works.ensures, c.station_works-2.ensures)
