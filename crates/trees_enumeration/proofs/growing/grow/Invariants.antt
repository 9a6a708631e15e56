-- The branch stands somewhere, and what is still to come from there on is what was to come at the start.
use mathlib.Core.Path.{◌≡◌}
use lib.ListN.{take}
use Rattle.forest.specs.History.{groups_after}
use Rattle.trees_enumeration.specs.Growing.{Roomy, Standing, coming, steps_from}
use Rattle.trees_enumeration.proofs.growing.grow.Given as goal

abbrev pub invariant-loop-taken : goal.invariant-loop-taken
invariant-loop-taken l =
    (coming l.shape.rest l.shape.m l.shape.t l.ends l.taken.count l.link l.taken.links
    ≡ coming l.shape.rest l.shape.m l.shape.t l.ends l.initial.taken.count l.initial.link l.initial.taken.links)
    × (l.groups ≡ groups_after l.ends (take l.taken.count l.taken.links))
    × Standing l.shape.m l.shape.t l.ends l.taken.count l.link l.taken.links l.taken.history
    × Roomy l.shape l.taken.links l.taken.history

abbrev pub decreases-loop-taken : goal.decreases-loop-taken
decreases-loop-taken l = steps_from l.shape.m l.taken.count l.link l.taken.links
