-- `walk_visit::sides::put_own_sides` meets its contract.
use mathlib.Core.Path.{◌≡◌, refl, sym, ap, ap₂, ◌∙◌}
use Prim.Native.Nat.{ℕ, ◌+◌, ◌*◌, ◌-◌, ◌≤◌, ◌<◌}
use native.Mathlib.Omega.{arith}
use mir.Facts.{to_z-of_z}
use lib.IntN.{pos}
use lib.ListN.{drop, get_or, length, length-drop, length-set, length-take, take}
use lib.Seq.{take_all}
use Rattle.network.specs.Tabulate.{tabulate}
use Rattle.network.proofs.Tabulate.{tabulate-none}
use Rattle.marking.specs.Paint.{side}
use Rattle.marking.specs.Place.{place-le, place_in}
use Rattle.marking.specs.Parts.{part-rest, parts-apart}
use Rattle.marking.specs.Sides.{no_side}
use Rattle.marking.specs.declared.mark.Side.{Side}
use Rattle.walk_visit.specs.Found.{own_side, own_sides, side-turn, unwritten}
use borrow.Author.Rules.{rules}
use mir.Syntax.{w16}
use mir.Val.{to_z, of_z}
use Rattle.walk_visit.proofs.sides.put_own_sides.Goals as goal
use Rattle.walk_visit.proofs.sides.put_own_sides.Goals.{In-loop-i}

pub loop-i-init : goal.loop-i-init
loop-i-init c = let a = c.args in (refl, sym (tabulate-none (own_side a.m a.values.now a.sides.now a.places.now a.y.now)), refl)

-- the side of this turn is still as it was; it has its place before the end of its values, and these lie inside
next-part : (c : In-loop-i)
    → let i = c.loop-i.i in
    let r = get_or c.args.sides.now i no_side in
    (get_or c.loop-i.sides i no_side ≡ r) × (get_or c.args.places.now i 0 < r.count) × (i * c.args.m + r.count ≤ length c.args.values.now)
next-part c =
    let l = c.loop-i in
    let a = c.args in
    let inside : l.i < length a.sides.now = omega (arith, c.requires.1.alike) in
    let apart = parts-apart (length a.sides.now) l.i a.m a.m inside (omega arith) in
    (unwritten l.sides a.sides.now l.i l.invariant.2, c.requires.1.low l.i inside, omega (arith, c.requires.0.few l.i inside, c.requires.0.room))

pub overflow_add-sides : goal.overflow_add-sides
overflow_add-sides c =
    let a = c.args in
    let at = c.loop-i.i * a.m + get_or a.places.now c.loop-i.i 0 in
    let rest = take (c.loop-i.i * a.m + (get_or c.loop-i.sides c.loop-i.i no_side).count - at) (drop at a.values.now) in
    let width = c.loop-i.i * a.m + (get_or c.loop-i.sides c.loop-i.i no_side).count - at in
    let low = place-le (to_z w16 (of_z w16 (get_or a.y.now c.loop-i.i (pos 0)))) rest in
    omega (arith, c.place_of.ensures, length-take width (drop at a.values.now), length-drop at a.values.now, c.well_formed)

pub loop-i-preserved : goal.loop-i-preserved
loop-i-preserved c =
    let l = c.loop-i in
    let a = c.args in
    let rs = a.sides.now in
    let inside : l.i < length l.sides = omega (arith, l.invariant.0, c.requires.1.alike) in
    let next = next-part ((goal.at.loop-i-preserved c).In-loop-i) in
    let cost = get_or a.y.now l.i (pos 0) in
    let place = get_or a.places.now l.i 0 in
    let r = get_or rs l.i no_side in
    let from = l.i * a.m in
    let values = part-rest a.values.now from r.count place (omega (arith, next)) (omega (arith, next)) in
    let found : c.place_of.result ≡ place_in cost (drop place (take r.count (drop from a.values.now))) =
    c.place_of.ensures
    ∙ ap₂ place_in (to_z-of_z {w = w16} {z = cost} (search rules))
    (ap (λ (q : Side). take (from + q.count - (from + place)) (drop (from + place) a.values.now)) next.0 ∙ values) in
    let own = ap₂ (λ (q : Side) (k : ℕ). side q.stride (k + 1)) next.0 found in
    let turn = side-turn (own_side a.m a.values.now rs a.places.now a.y.now) l.sides rs l.i inside l.invariant.1 l.invariant.2 own in
    (simp length-set l.invariant.0, turn.0, turn.1)

pub returns : goal.returns
unfolding own_sides
returns c =
    let l = c.loop-i in
    let a = c.args in
    let e : l.i ≡ length a.sides.now = omega (arith, c.requires.1.alike) in
    sym (take_all l.i l.sides (omega (arith, l.invariant.0))) ∙ l.invariant.1 ∙ ap (tabulate (own_side a.m a.values.now a.sides.now a.places.now a.y.now)) e
