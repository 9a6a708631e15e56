-- The station is in range, so that it has a leader.
use Prim.Native.Nat.{◌<◌}
use mathlib.Core.Path.{◌≡◌}
use native.Mathlib.Omega.{arith}
use borrow.Author.Rules.{rules}
use lib.ListN.{length}
use Rattle.order.proofs.Lists.{get_or_default}
use Rattle.network.specs.Capacities.{stations_held}
use Rattle.forest.proofs.Forest.find.Goals as goal

pub returns : goal.returns
returns c =
    let l = c.args.self.leader in
    let n : length l ≡ stations_held = search rules in
    let h : c.args.v < length l = omega arith in
    get_or_default l c.args.v 0 c.args.v h
