-- After i turns the costs by the first i ceilings are there, and the columns of the others are left.
use Prim.Native.Nat.{◌*◌}
use mathlib.Core.Path.{◌≡◌}
use lib.ListN.{drop}
use Rattle.trees_costs.specs.TreeCosts.{ceilings_to}
use Rattle.trees_costs.proofs.costs.ceiling_costs.Given as goal

abbrev pub invariant-loop-i : goal.invariant-loop-i
invariant-loop-i l =
    (l.columns ≡ drop (l.i * l.shape.m) l.costs) × (l.y ≡ ceilings_to l.shape.m l.shape.k l.costs l.links l.i)
