use Rattle.std.proofs.Common.{ℕ, zero, suc, ◌+◌, ◌-◌, ◌*◌, ◌≤◌, ◌<◌, ◌≡◌, refl, pos, get_or, length, drop, length-drop, length-take-le}
use native.Mathlib.Omega.{arith}
use native.Mathlib.Nat.{suc-mul}
use Rattle.std.proofs.Math.Nat.{mul-le-mul_right}
use Rattle.std.proofs.Math.Numerals.{add-one}
use borrow.Author.Rules.{rules}
use mir.Facts.{to_z-of_z}
use mir.Syntax.{w16}
use mir.Val.{SFits}
use Rattle.exceptions.specs.Patterns.{from_end, from-room, from-size, from_start, from-turn}
use Rattle.exceptions.proofs.patterns.put_patterns.Goals as goal
use Rattle.exceptions.proofs.patterns.put_patterns.Goals.{In-loop-i}

-- the part of the ceiling before place i, of n parts with m numbers each
part : (i n m : ℕ) → 0 < i → i ≤ n → ((i - 1 + 1) * m ≡ (i - 1) * m + m) × ((i - 1) * m + m ≤ n * m)
part zero n m h f = absurd (omega arith)
part (suc j) n m h f =
    let back : suc j - 1 ≡ j = omega arith in
    rw (back, add-one j) (omega (arith, suc-mul j m), omega (arith, suc-mul j m, mul-le-mul_right m f))

-- that of the ceiling in turn
turn : (c : In-loop-i)
    → let j = c.loop-i.i - 1 in
    let m = length c.args.patterns.now in
    ((j + 1) * m ≡ j * m + m) × (j * m + m ≤ length c.args.costs.now)
turn c = rw (c.requires.0) (part c.loop-i.i _ _ c.loop-i-test.true c.loop-i.invariant.0)

pub loop-i-init : goal.loop-i-init
loop-i-init c =
    let a = c.args in
    let p = c.requires in
    (omega arith, refl, from_start _ _ a.bounds.now a.patterns.now p.2)

pub add_digit-requires : goal.add_digit-requires
add_digit-requires c =
    let v = c.loop-i in
    let a = c.args in
    let m = length a.patterns.now in
    let w = turn ((goal.at.add_digit-requires c).In-loop-i) in
    let size : (v.i - 1) * m + m - (v.i - 1) * m ≡ m = omega arith in
    let rest : m ≤ length (drop ((v.i - 1) * m) a.costs.now) = omega (arith, length-drop ((v.i - 1) * m) a.costs.now, w.1) in
    (rw (w.0, v.invariant.1, size) (length-take-le m _ rest), from-room m a.costs.now a.bounds.now v.i c.requires.1 v.invariant.2)

pub loop-i-preserved : goal.loop-i-preserved
loop-i-preserved c =
    let v = c.loop-i in
    let a = c.args in
    let m = length a.patterns.now in
    let w = turn ((goal.at.loop-i-preserved c).In-loop-i) in
    let fits : SFits w16 (get_or a.bounds.now (v.i - 1) (pos 0)) = search rules in
    let more = rw (to_z-of_z fits) at c.add_digit.ensures in
    let next : v.i ≡ v.i - 1 + 1 = omega arith in
    let now = from-turn m a.costs.now a.bounds.now v.i (v.i - 1) _ ((v.i - 1 + 1) * m) next v.invariant.0 refl w.0 v.invariant.2 more in
    (omega arith, from-size m a.costs.now a.bounds.now (v.i - 1) now, now)

pub returns : goal.returns
returns c =
    let none : c.loop-i.i ≡ 0 = omega arith in
    from_end _ _ _ _ (rw none at c.loop-i.invariant.2)
