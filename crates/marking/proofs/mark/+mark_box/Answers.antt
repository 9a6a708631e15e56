-- `marking::mark::mark_box` meets its contract.
use mathlib.Core.Path.{sym, ◌∙◌, subst}
use Prim.Native.Nat.{ℕ, ◌+◌, ◌*◌, ◌-◌, ◌<◌}
use native.Mathlib.Omega.{arith}
use lib.ListN.{drop, get_or, length, length-drop, take}
use Rattle.marking.specs.Paint.{paint, row-turn, sweep-end}
use Rattle.marking.specs.Sides.{inside-part, no_side, one_side, part-room, rest_part, two_sides}
use Rattle.marking.proofs.mark.+mark_box.Goals as goal

pub mark_row-requires : goal.mark_row-requires
mark_row-requires t c = (one_side c.requires c.in-len1.len_at_least c.in-len1.len_below).0

pub mark_rows-requires : goal.mark_rows-requires
mark_rows-requires t c = let w = two_sides c.requires c.in-len2.len_at_least c.in-len2.len_below in (w.0, w.1)

pub overflow_mul-part : goal.overflow_mul-part
overflow_mul-part t c =
    let some : 0 < length c.args.sides.now = omega arith in
    omega (arith, part-room c.loop-part.part some c.requires c.loop-part-test.true, c.well_formed)

pub overflow_add-start : goal.overflow_add-start
overflow_add-start t c =
    let some : 0 < length c.args.sides.now = omega arith in
    omega (arith, part-room c.loop-part.part some c.requires c.loop-part-test.true, c.well_formed)

pub mark_box-requires : goal.mark_box-requires
mark_box-requires t c =
    let a = c.args in
    let rs = a.sides.now in
    let l = c.loop-part in
    let some : 0 < length rs = omega arith in
    let at = a.start + l.part * (get_or rs 0 no_side).stride in
    let inside = inside-part at some c.requires (part-room l.part some c.requires c.loop-part-test.true) in
    let shorter : length (take (length rs - 1) (drop 1 rs)) < length rs = rw (rest_part rs) (omega (arith, length-drop 1 rs)) in (
      subst (λ (j : ℕ). length (take (length rs - 1) (drop 1 rs)) < j) c.decreases shorter,
      rw (rest_part rs, l.invariant.0) inside,
    )

pub loop-part-preserved : goal.loop-part-preserved
loop-part-preserved t c =
    let a = c.args in
    let l = c.loop-part in
    let rs = a.sides.now in
    let first = get_or rs 0 no_side in (
      c.mark_box.auto.marks ∙ l.invariant.0,
      row-turn (paint (take (length rs - 1) (drop 1 rs))) first.stride l.part first.count a.start l.marks c.loop-part-test.true c.mark_box.ensures
          ∙ l.invariant.1,
    )

pub returns-after-loop-part : goal.returns-after-loop-part
returns-after-loop-part t c =
    let a = c.args in
    let l = c.loop-part in
    let rs = a.sides.now in
    let first = get_or rs 0 no_side in
    sym (sweep-end (paint (take (length rs - 1) (drop 1 rs))) first.stride (first.count - l.part) _ l.marks (omega arith)) ∙ l.invariant.1
