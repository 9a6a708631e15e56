-- `marking::grid::put_places` meets its contract.
use mathlib.Core.List.{◌++◌}
use mathlib.Core.Path.{◌≡◌, sym, ap, ◌∙◌}
use Prim.Native.Nat.{ℕ, ◌+◌, ◌/◌, ◌%◌, ◌<◌}
use native.Mathlib.Omega.{arith}
use lib.ListN.{drop, get_or, length, length-set, set, take}
use Rattle.std.proofs.lemmas.List.{length-map}
use Rattle.order.proofs.Lists.{get_or_map}
use Rattle.marking.specs.Digits.{digits-end, digits-turn, digits_by}
use Rattle.marking.specs.Sides.{no_side, strides}
use Rattle.marking.specs.declared.mark.Side.{Side}
use Rattle.marking.proofs.grid.put_places.Goals as goal
use Rattle.marking.proofs.grid.put_places.Goals.{In-loop-i}

-- the stride of this turn's side
stride : (c : In-loop-i) → get_or (strides c.args.sides.now) c.loop-i.i 0 ≡ (get_or c.args.sides.now c.loop-i.i no_side).stride
stride c = get_or_map (λ (r : Side). r.stride) c.args.sides.now c.loop-i.i no_side 0 (omega arith)

some-stride : (c : In-loop-i) → 0 < (get_or c.args.sides.now c.loop-i.i no_side).stride
some-stride c =
    let counted = length-map c.args.sides.now (λ (r : Side). r.stride) in
    omega (arith, stride c, c.requires.0.some c.loop-i.i (omega arith))

pub nonzero_div-places : goal.nonzero_div-places
nonzero_div-places c = some-stride ((goal.at.nonzero_div-places c).In-loop-i)

pub nonzero_rem-rest : goal.nonzero_rem-rest
nonzero_rem-rest c = some-stride ((goal.at.nonzero_rem-rest c).In-loop-i)

pub loop-i-preserved : goal.loop-i-preserved
loop-i-preserved c =
    let l = c.loop-i in
    let ws = strides c.args.sides.now in
    let counted = length-map c.args.sides.now (λ (r : Side). r.stride) in
    let same : length l.places ≡ length ws = omega (arith, l.invariant.0) in
    let turn = digits-turn ws l.places l.i l.rest _ (omega arith) same l.invariant.1 in (
      simp length-set l.invariant.0,
      ap (λ (w : ℕ). take (l.i + 1) (set l.places l.i (l.rest / w)) ++ digits_by (drop (l.i + 1) ws) (l.rest % w))
          (sym (stride ((goal.at.loop-i-preserved c).In-loop-i))) ∙ turn,
    )

pub returns : goal.returns
returns c =
    let l = c.loop-i in
    let counted = length-map c.args.sides.now (λ (r : Side). r.stride) in
    digits-end (strides c.args.sides.now) l.places l.i l.rest _ (omega arith) (omega (arith, l.invariant.0)) l.invariant.1
