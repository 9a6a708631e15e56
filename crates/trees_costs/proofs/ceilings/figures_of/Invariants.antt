-- After i turns the costs of the first i links are there.
use mathlib.Core.Path.{◌≡◌}
use lib.ListN.{take}
use mathlib.Core.List.{map}
use Rattle.network.specs.Yard.{cost_at}
use Rattle.trees_costs.proofs.ceilings.figures_of.Given as goal

abbrev pub invariant-loop-i : goal.invariant-loop-i
invariant-loop-i l = take l.i l.figures ≡ map (cost_at l.column) (take l.i l.links)
