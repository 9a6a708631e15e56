-- The trees from number r on, less those still to be passed, are ahead.
use Prim.Native.Nat.{◌-◌, ◌≤◌}
use mathlib.Core.Path.{◌≡◌}
use lib.ListN.{drop, length}
use Rattle.trees_enumeration.specs.Enumerated.{ahead_in}
use Rattle.trees_enumeration.specs.Growing.{trees_in}
use Rattle.trees_enumeration.proofs.numbering.hand_out.Given as goal

abbrev pub invariant-loop-trees : goal.invariant-loop-trees
invariant-loop-trees l =
    (l.tree ≡ l.fn.tree) × (l.left ≤ l.r) × (drop (l.r - l.left) (trees_in l.net.shape l.net.ends.now) ≡ ahead_in l.trees)

abbrev pub decreases-loop-trees : goal.decreases-loop-trees
decreases-loop-trees l = length (ahead_in l.trees)
