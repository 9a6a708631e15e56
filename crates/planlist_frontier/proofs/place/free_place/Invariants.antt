-- `planlist_frontier::place::free_place` meets its contract. The invariant: the answer is behind the i records passed so far, by that for the others.
use mathlib.Core.Path.{◌≡◌}
use Prim.Native.Nat.{◌+◌, ◌-◌, ◌*◌}
use lib.ListN.{drop}
use Rattle.encoding.specs.Blocks.{blocks}
use Rattle.planlist_frontier.specs.Place.{free_place}
use Rattle.planlist_frontier.proofs.place.free_place.Given as goal

abbrev pub invariant-loop-i : goal.invariant-loop-i
invariant-loop-i l =
    free_place l.slots l.v (blocks l.size l.count l.plans) + (l.count - l.i)
    ≡ l.count + free_place l.slots l.v (blocks l.size (l.count - l.i) (drop (l.i * l.size) l.plans))
