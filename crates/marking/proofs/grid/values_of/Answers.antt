use mathlib.Core.Path.{◌≡◌, refl, ◌∙◌}
use Prim.Native.Nat.{◌+◌, ◌-◌, ◌≤◌}
use native.Mathlib.Nat.{suc-mul}
use native.Mathlib.Numerals.{add-one}
use native.Mathlib.Omega.{arith}
use borrow.Rule.Slice.PartMut.{mid_len, same_len_mid}
use borrow.Author.Rules.{rules}
use lib.ListN.{drop, length, length-set, length-take}
use Rattle.marking.specs.Parts.{filled-turn, none_filled, parts-apart}
use Rattle.marking.proofs.grid.values_of.Goals as goal
use Rattle.marking.proofs.grid.values_of.Goals.{In-loop-i}

-- the part of its ceiling lies inside the costs and the values
next-part : (c : In-loop-i)
    → (c.loop-i.from + c.args.shape.m ≤ length c.args.costs.now) × (length c.args.values.now ≡ length c.args.costs.now)
next-part c =
    let l = c.loop-i in
    let shape = c.args.shape in
    let can = c.requires.1 in
    let apart = parts-apart shape.p l.i shape.m shape.m c.loop-i-test.true (omega arith) in
    (omega (arith, l.invariant.2, can.costs-are), omega (arith, can.costs-are, can.array-is))

pub loop-i-init : goal.loop-i-init
loop-i-init c =
    let a = c.args in
    (refl, refl, omega arith, none_filled _ a.shape.m a.costs.now a.values.now _)

pub overflow_add-to : goal.overflow_add-to
overflow_add-to c = omega (arith, next-part ((goal.at.overflow_add-to c).In-loop-i), c.well_formed)

pub offset_bounds-costs-from : goal.offset_bounds-costs-from
offset_bounds-costs-from c = omega (arith, next-part ((goal.at.offset_bounds-costs-from c).In-loop-i), c.well_formed)

pub slice_bounds-different_values-end : goal.slice_bounds-different_values-end
slice_bounds-different_values-end c = omega (arith, next-part ((goal.at.slice_bounds-different_values-end c).In-loop-i))

pub offset_bounds-values-from : goal.offset_bounds-values-from
offset_bounds-values-from c = omega (arith, next-part ((goal.at.offset_bounds-values-from c).In-loop-i), c.well_formed)

pub slice_bounds-different_values-end-in-loop-i : goal.slice_bounds-different_values-end-in-loop-i
slice_bounds-different_values-end-in-loop-i c = omega (arith, next-part ((goal.at.slice_bounds-different_values-end-in-loop-i c).In-loop-i))

pub different_values-requires : goal.different_values-requires
different_values-requires c =
    let l = c.loop-i in
    let m = c.args.shape.m in
    (c.requires.0, omega (arith, length-take (l.from + m - l.from) (drop l.from c.args.costs.now), c.requires.1.links), search rules)

pub loop-i-preserved : goal.loop-i-preserved
loop-i-preserved c =
    let l = c.loop-i in
    let m = c.args.shape.m in
    let new = c.different_values in
    let room = next-part ((goal.at.loop-i-preserved c).In-loop-i) in
    let width : l.from + m - l.from ≡ m = omega arith in
    let kept = new.auto.values in
    let size : length new.new.values ≡ m = kept ∙ mid_len l.from (l.from + m) l.values (omega (arith, room, l.invariant.0)) ∙ width in (
      same_len_mid l.from (l.from + m - l.from) l.values new.new.values kept ∙ l.invariant.0,
      simp length-set l.invariant.1,
      omega (arith, l.invariant.2, suc-mul l.i m, add-one l.i),
      filled-turn l.invariant.3 l.from (l.from + m - l.from) new.result new.new.values l.invariant.2 width
          (omega (arith, l.invariant.1, c.requires.1.ceilings)) (omega (arith, room)) (omega (arith, room, l.invariant.0)) size new.ensures,
    )

pub returns : goal.returns
returns c =
    let l = c.loop-i in
    let e : l.i ≡ c.args.shape.p = omega arith in
    (l.invariant.1, rw e at l.invariant.3)
