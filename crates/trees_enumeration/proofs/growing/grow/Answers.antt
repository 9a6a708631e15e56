-- The branch stands somewhere, and what is still to come from there on is what was to come at the start.
use Prim.Native.Nat.{◌-◌, ◌≤◌}
use mathlib.Core.Path.{refl, sym, ◌∙◌}
use native.Mathlib.Omega.{arith}
use borrow.Author.Rules.{rules}
use Rattle.forest.specs.Groups.{leaders-lead}
use Rattle.trees_enumeration.specs.Growing.{Roomy, back-coming, back-less, back-standing, groups-here, led-here, roomy}
use Rattle.trees_enumeration.specs.Growing.{left-coming, left_less, left-standing, more-coming, more-groups}
use Rattle.trees_enumeration.specs.Growing.{taken-less, taken-roomy, taken-standing, test-takes}
use Rattle.trees_enumeration.specs.Growing.{reached-empty, reached-from, reached-none, reached-whole}
use Rattle.trees_enumeration.specs.Taken.{last-none, last-some}
use Rattle.trees_enumeration.proofs.growing.grow.Goals as goal
use Rattle.trees_enumeration.proofs.growing.grow.Goals.{Else-shape-link}

-- enough links are left
enough : (c : Else-shape-link) → c.args.shape.t - c.loop-taken.taken.count ≤ c.args.shape.m - c.loop-taken.link
enough c = omega (arith, c.if-shape-link.false)

pub loop-taken-init : goal.loop-taken-init
loop-taken-init c =
    let l : Roomy c.args.shape c.args.taken.now.links c.args.taken.now.history = roomy c.requires.0 (search rules) (search rules) in
    (refl, c.groups-groups.ensures ∙ groups-here _ _ c.requires.0 l c.requires.1, c.requires.1, l)

-- too few links are left, and none is taken
pub returns-in_default : goal.returns-in_default
returns-in_default c =
    let v = c.loop-taken.invariant in
    let none = last-none _ _ c.in_default.ensures.link in
    reached-from v.0 (reached-none _ _ c.requires.0 v.3 v.2 c.if-shape-link.true none)

-- the last link taken is left instead
pub loop-taken-smaller-then-shape-link : goal.loop-taken-smaller-then-shape-link
loop-taken-smaller-then-shape-link c =
    let v = c.loop-taken.invariant in
    let left = c.in-Some.ensures in
    let last = last-some _ _ left.link in
    rw (left.others.0, left.others.2, last.1) (back-less _ _ c.requires.0 v.3 v.2 last.0)

pub loop-taken-preserved-then-shape-link : goal.loop-taken-preserved-then-shape-link
loop-taken-preserved-then-shape-link c =
    let v = c.loop-taken.invariant in
    let can = c.requires.0 in
    let left = c.in-Some.ensures in
    let last = last-some _ _ left.link in
    let behind = back-standing _ _ can v.3 v.2 last.0 in
    let groups = c.groups-groups-then-shape-link.ensures in
    rw (last.1, left.others.0, left.others.1, left.others.2) (
      sym (back-coming _ _ can v.3 v.2 last.0 c.if-shape-link.true) ∙ v.0,
      rw (left.others.1, left.others.2) at groups ∙ groups-here _ _ can v.3 behind,
      behind,
      v.3,
    )

-- enough links are left: one is tried, and is taken where it is usable and joins two groups
pub returns-then-taken-t : goal.returns-then-taken-t
returns-then-taken-t c =
    let at = goal.at.returns-then-taken-t c in
    let v = c.loop-taken.invariant in
    let can = c.requires.0 in
    let room = c.loop-taken-test.true in
    let some = enough at.Else-shape-link in
    let tested = test-takes _ _ can v.3 v.2 room some c.loop-taken.groups v.1 c.is_usable.ensures c.find-new.ensures c.find-old.ensures in
    let put = c.close.ensures in
    reached-from v.0 (reached-whole _ _ can v.3 v.2 room some (sym tested ∙ c.if-joins.true) c.if-taken-t.true put.0 put.1 put.2)

pub join-groups-requires : goal.join-groups-requires
join-groups-requires c =
    let v = c.loop-taken.invariant in
    leaders-lead c.loop-taken.groups _ _ c.find-new.ensures c.find-old.ensures (led-here _ _ c.requires.0 v.3 v.2 v.1)

pub loop-taken-smaller-then-joins : goal.loop-taken-smaller-then-joins
loop-taken-smaller-then-joins c =
    let at = goal.at.loop-taken-smaller-then-joins c in
    let v = c.loop-taken.invariant in
    let can = c.requires.0 in
    let room = c.loop-taken-test.true in
    let some = enough at.Else-shape-link in
    let tested = test-takes _ _ can v.3 v.2 room some c.loop-taken.groups v.1 c.is_usable.ensures c.find-new.ensures c.find-old.ensures in
    let put = c.take.ensures in
    rw (put.0, put.2) (taken-less _ _ can v.3 v.2 room some (sym tested ∙ c.if-joins.true))

pub loop-taken-preserved-then-joins : goal.loop-taken-preserved-then-joins
loop-taken-preserved-then-joins c =
    let at = goal.at.loop-taken-preserved-then-joins c in
    let v = c.loop-taken.invariant in
    let can = c.requires.0 in
    let room = c.loop-taken-test.true in
    let some = enough at.Else-shape-link in
    let tested = test-takes _ _ can v.3 v.2 room some c.loop-taken.groups v.1 c.is_usable.ensures c.find-new.ensures c.find-old.ensures in
    let yes = sym tested ∙ c.if-joins.true in
    let put = c.take.ensures in
    let groups = more-groups _ _ can v.3 v.2 room some yes v.1 c.find-new.ensures c.find-old.ensures c.join-groups.ensures in
    rw put.2 (
      rw put.0 (sym (more-coming _ _ can v.3 v.2 room some yes) ∙ v.0),
      rw put.0 groups,
      taken-standing _ _ can v.3 v.2 room some yes c.if-taken-t.false groups put.0 put.1,
      taken-roomy _ _ can v.3 v.2 room some yes c.if-taken-t.false groups put.0 put.1,
    )

-- it is left
pub loop-taken-smaller : goal.loop-taken-smaller
loop-taken-smaller c =
    let at = goal.at.loop-taken-smaller c in
    let v = c.loop-taken.invariant in
    let can = c.requires.0 in
    let room = c.loop-taken-test.true in
    let some = enough at.Else-shape-link in
    let tested = test-takes _ _ can v.3 v.2 room some c.loop-taken.groups v.1 c.is_usable.ensures c.find-new.ensures c.find-old.ensures in
    left_less _ _ can v.3 v.2 room some (sym tested ∙ c.if-joins.false)

pub loop-taken-preserved : goal.loop-taken-preserved
loop-taken-preserved c =
    let at = goal.at.loop-taken-preserved c in
    let v = c.loop-taken.invariant in
    let can = c.requires.0 in
    let room = c.loop-taken-test.true in
    let some = enough at.Else-shape-link in
    let tested = test-takes _ _ can v.3 v.2 room some c.loop-taken.groups v.1 c.is_usable.ensures c.find-new.ensures c.find-old.ensures in
    let no = sym tested ∙ c.if-joins.false in
    (sym (left-coming _ _ can v.3 v.2 room some no) ∙ v.0, v.1, left-standing _ _ can v.3 v.2 room some no, v.3)

-- as many are taken as a tree has: none
pub returns : goal.returns
returns c =
    let v = c.loop-taken.invariant in
    reached-from v.0 (reached-empty _ _ c.requires.0 v.3 v.2 (omega (arith, c.loop-taken-test.false)))
