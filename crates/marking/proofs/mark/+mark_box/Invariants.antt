-- `marking::mark::mark_box` meets its contract, by its own contract for fewer sides. The invariant: what is left of the sweep over the first side,
-- from the marks now, gives what the whole gives from those at entry.
use mathlib.Core.Path.{◌≡◌}
use Prim.Native.Nat.{◌+◌, ◌-◌, ◌*◌}
use lib.ListN.{length}
use Rattle.marking.specs.Paint.{paint, sweep}
use Rattle.marking.proofs.mark.+mark_box.Given as goal

-- the number of sides falls
abbrev pub decreases-mark_box : goal.decreases-mark_box
decreases-mark_box l = length l.sides.now

abbrev pub invariant-loop-part : goal.invariant-loop-part
invariant-loop-part l =
    (length l.marks ≡ length l.initial.marks)
    × (sweep (paint l.rest) l.first.stride (l.first.count - l.part) (l.start + l.part * l.first.stride) l.marks ≡ paint l.sides l.start l.initial.marks)
