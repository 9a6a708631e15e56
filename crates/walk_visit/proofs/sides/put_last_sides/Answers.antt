-- `walk_visit::sides::put_last_sides` meets its contract.
use mathlib.Core.Path.{◌≡◌, refl, sym, ap, ◌∙◌}
use Prim.Native.Nat.{◌-◌, ◌<◌}
use native.Mathlib.Omega.{arith}
use lib.ListN.{get_or, length, length-set}
use lib.Seq.{take_all}
use Rattle.network.specs.Tabulate.{tabulate}
use Rattle.network.proofs.Tabulate.{tabulate-none}
use Rattle.marking.specs.Paint.{side}
use Rattle.marking.specs.declared.mark.Side.{Side}
use Rattle.walk_visit.specs.Found.{last_side, last_sides, side-turn, unwritten}
use Rattle.walk_visit.proofs.sides.put_last_sides.Goals as goal

pub loop-i-init : goal.loop-i-init
loop-i-init c = (refl, sym (tabulate-none (last_side c.args.sides.now c.args.places.now)), refl)

pub loop-i-preserved : goal.loop-i-preserved
loop-i-preserved c =
    let l = c.loop-i in
    let a = c.args in
    let rs = a.sides.now in
    let inside : l.i < length l.sides = omega (arith, l.invariant.0, c.requires.alike) in
    let own = ap (λ (r : Side). side r.stride (r.count - get_or a.places.now l.i 0)) (unwritten l.sides rs l.i l.invariant.2) in
    let turn = side-turn (last_side rs a.places.now) l.sides rs l.i inside l.invariant.1 l.invariant.2 own in
    (simp length-set l.invariant.0, turn.0, turn.1)

pub returns : goal.returns
unfolding last_sides
returns c =
    let l = c.loop-i in
    let a = c.args in
    let e : l.i ≡ length a.sides.now = omega (arith, c.requires.alike) in
    sym (take_all l.i l.sides (omega (arith, l.invariant.0))) ∙ l.invariant.1 ∙ ap (tabulate (last_side a.sides.now a.places.now)) e
