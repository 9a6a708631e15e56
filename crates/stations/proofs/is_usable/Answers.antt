-- `stations::is_usable` meets its contract. Where no station rests every link is usable.
use mathlib.Core.Path.{sym}
use Rattle.network.proofs.Resting.{all-usable}
use Rattle.stations.proofs.is_usable.Goals as goal

pub returns-then-rest-eq0 : goal.returns-then-rest-eq0
returns-then-rest-eq0 c = rw c.if-rest-eq0.true (sym (all-usable _))
