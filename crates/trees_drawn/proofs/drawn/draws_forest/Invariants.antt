-- What is left to draw from the groups so far is what all links draw from none.
use mathlib.Core.Path.{◌≡◌}
use lib.ListN.{drop}
use Rattle.forest.specs.Groups.{Led}
use Rattle.trees_drawn.specs.Drawn.{draws_forest, draws_from}
use Rattle.trees_drawn.proofs.drawn.draws_forest.Given as goal

abbrev pub invariant-loop-link : goal.invariant-loop-link
invariant-loop-link l = Led l.drawn.groups × (draws_from l.rest l.ends l.m l.drawn (drop l.link-index l.links) ≡ draws_forest l.rest l.ends l.m l.links)
