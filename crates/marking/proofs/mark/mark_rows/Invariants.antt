-- `marking::mark::mark_rows` meets its contract. The invariant: what is left of the sweep, from the marks now, gives what the whole gives from those
-- at entry.
use mathlib.Core.Path.{◌≡◌}
use mathlib.Core.List.{[], ◌∷◌}
use Prim.Native.Nat.{◌+◌, ◌-◌, ◌*◌}
use lib.ListN.{length}
use Rattle.marking.specs.Paint.{paint, side, sweep}
use Rattle.marking.proofs.mark.mark_rows.Given as goal

abbrev pub invariant-loop-row : goal.invariant-loop-row
invariant-loop-row l =
    (length l.marks ≡ length l.initial.marks)
    × (sweep (paint (side 1 l.n ∷ [])) l.rows.stride (l.rows.count - l.row) (l.start + l.row * l.rows.stride) l.marks
    ≡ sweep (paint (side 1 l.n ∷ [])) l.rows.stride l.rows.count l.start l.initial.marks)
