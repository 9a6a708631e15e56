-- Those counted and those that are ahead are all trees.
use Prim.Native.Nat.{◌+◌}
use mathlib.Core.Path.{◌≡◌}
use lib.ListN.{length}
use Rattle.trees_enumeration.specs.Enumerated.{ahead_in}
use Rattle.trees_enumeration.specs.Growing.{trees_in}
use Rattle.trees_enumeration.proofs.counting.count_trees.Given as goal

abbrev pub invariant-loop-trees : goal.invariant-loop-trees
invariant-loop-trees l = l.count + length (ahead_in l.trees) ≡ length (trees_in l.fn.shape l.ends)

abbrev pub decreases-loop-trees : goal.decreases-loop-trees
decreases-loop-trees l = length (ahead_in l.trees)
