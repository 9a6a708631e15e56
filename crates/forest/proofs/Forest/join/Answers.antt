-- Each of the two stations is its own leader, so that `relabel` hands back the leaders once both groups are one.
use Rattle.forest.specs.Groups.{joined}
use Rattle.forest.proofs.Forest.join.Goals as goal

pub returns : goal.returns
unfolding joined
returns c = let own = c.requires in rw (c.relabel-leader.ensures, own.0, own.1)
