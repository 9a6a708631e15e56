-- After i turns the first i leaders are relabelled.
use Prim.Native.Nat.{◌≤◌, ◌-◌}
use mathlib.Core.Path.{◌≡◌}
use Rattle.network.specs.Capacities.{stations_held}
use Rattle.spanning.specs.LabelList.{replaced}
use Rattle.forest.specs.MapFirst.{map_first}
use Rattle.forest.proofs.relabel.Given as goal

abbrev pub invariant-loop-i : goal.invariant-loop-i
invariant-loop-i l = (l.i ≤ stations_held) × (l.leaders ≡ map_first (replaced l.new l.old) l.i l.initial.leaders)

abbrev pub decreases-loop-i : goal.decreases-loop-i
decreases-loop-i l = stations_held - l.i
