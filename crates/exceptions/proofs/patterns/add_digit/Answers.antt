use Prim.Native.Nat.{◌<◌}
use mathlib.Core.Path.{◌≡◌, refl}
use native.Mathlib.Omega.{arith}
use borrow.Author.Rules.{rules}
use lib.IntN.{pos}
use lib.ListN.{get_or, length}
use mir.Facts.{to_z-of_z}
use mir.Syntax.{w16}
use mir.Val.{SFits}
use Rattle.exceptions.specs.Patterns.{added-all, added_next, added_none, added-turn, pattern_at}
use Rattle.exceptions.proofs.patterns.add_digit.Goals as goal
use Rattle.exceptions.proofs.patterns.add_digit.Goals.{In-loop-e}

-- the link at a turn has room for one digit more
room : (c : In-loop-e) → pattern_at c.loop-e.patterns c.loop-e.e < 128
room c =
    let v = c.loop-e in
    let h : v.e < length c.args.patterns.now = omega arith in
    rw (added_next _ _ _ v.e h v.invariant.2) (c.requires.1.small _ h)

pub loop-e-init : goal.loop-e-init
loop-e-init c = (omega arith, refl, added_none _ _ _)

pub overflow_mul-patterns : goal.overflow_mul-patterns
overflow_mul-patterns c = omega (arith, room ((goal.at.overflow_mul-patterns c).In-loop-e))

pub overflow_add-patterns : goal.overflow_add-patterns
overflow_add-patterns c = omega (arith, room ((goal.at.overflow_add-patterns c).In-loop-e), c.above.ensures.1)

pub loop-e-preserved : goal.loop-e-preserved
loop-e-preserved c =
    let v = c.loop-e in
    let h : v.e < length c.args.patterns.now = omega arith in
    let fits : SFits w16 (get_or c.args.column.now v.e (pos 0)) = search rules in
    let digit = rw (to_z-of_z fits) at c.above.ensures.0 in
    (omega arith, search rules, added-turn _ _ _ v.e c.above.result h v.invariant.2 digit)

pub returns : goal.returns
returns c =
    let v = c.loop-e in
    let all : v.e ≡ length c.args.patterns.now = omega arith in
    rw (to_z-of_z c.ranges.bound) at (added-all _ _ _ v.e all v.invariant.2)
