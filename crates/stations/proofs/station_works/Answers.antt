-- `stations::station_works` meets its contract. A shift is a division by a power of two.
use mathlib.Core.Path.{refl}
use Rattle.network.specs.Yard.{works}
use Rattle.stations.proofs.station_works.Goals as goal

pub returns : goal.returns
unfolding works
returns c = refl
