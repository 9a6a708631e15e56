-- The leaders are the numbers from 0 on.
use mathlib.Core.Path.{refl}
use Rattle.order.specs.Lists.{numbers_from}
use Rattle.forest.specs.Groups.{apart}
use Rattle.forest.proofs.Forest.new.Goals as goal

pub returns : goal.returns
unfolding apart numbers_from
returns c = refl
