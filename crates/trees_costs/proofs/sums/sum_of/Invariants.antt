-- The sum so far and that of the links that are left are the whole sum.
use Prim.Native.Nat.{◌+◌}
use mathlib.Core.Path.{◌≡◌}
use lib.ListN.{drop}
use Rattle.trees_costs.specs.Added.{sum_of}
use Rattle.trees_costs.proofs.sums.sum_of.Given as goal

abbrev pub invariant-loop-link : goal.invariant-loop-link
invariant-loop-link l = l.sum + sum_of l.sums (drop l.link-index l.links) ≡ sum_of l.sums l.links
