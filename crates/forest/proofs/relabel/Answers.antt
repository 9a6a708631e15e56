use Prim.Native.Nat.{◌≤◌}
use mathlib.Core.Path.{◌≡◌}
use native.Mathlib.Omega.{arith}
use borrow.Author.Rules.{rules}
use lib.ListN.{length}
use Rattle.network.specs.Capacities.{stations_held}
use Rattle.forest.specs.MapFirst.{map_first-end, map_first-turn}
use Rattle.forest.proofs.relabel.Goals as goal

pub loop-i-preserved : goal.loop-i-preserved
loop-i-preserved c = (omega arith, map_first-turn _ _ _ _ _ c.loop-i.invariant.1 c.successor.ensures)

pub returns : goal.returns
returns c =
    let leaders = c.args.leaders in
    let size : length leaders ≡ stations_held = search rules in
    let all : length leaders ≤ c.loop-i.i = omega arith in
    map_first-end _ _ _ _ c.loop-i.invariant.1 all
