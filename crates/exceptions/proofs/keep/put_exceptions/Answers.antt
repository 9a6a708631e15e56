use Prim.Native.Nat.{ℕ, ◌≤◌, ◌<◌}
use mathlib.Core.Path.{refl, ◌∙◌}
use native.Mathlib.Omega.{arith}
use lib.ListN.{get_or, length, length-set}
use Rattle.order.proofs.Test.{both}
use Rattle.order.proofs.Lists.{get_or-mem}
use Rattle.spanning.specs.Tree.{EndsBelow}
use Rattle.network.specs.Capacities.{patterns_held, stations_held}
use Rattle.network.specs.Yard.{ends_at}
use Rattle.forest.specs.Groups.{Led, leaders-differ, leaders-equal, leaders-joined, leaders-lead, nobody}
use Rattle.forest.specs.declared.Forest.{Forest}
use Rattle.exceptions.specs.Patterns.{pattern_at}
use Rattle.exceptions.specs.Keep.{after-led, alone-led, gather-end, gather-left, gather-start, gather-taken, kept_whole}
use Rattle.exceptions.specs.Keep.{pattern-known}
use Rattle.exceptions.specs.Select.{known_at}
use Rattle.exceptions.proofs.keep.put_exceptions.Goals as goal
use Rattle.exceptions.proofs.keep.put_exceptions.Goals.{In-loop-e, then-fit-pattern+then-new-old, then-fit-pattern+else-new-old, else-fit-pattern}

-- the link at a turn
abbrev link_at : In-loop-e → ℕ
link_at c = get_or c.args.order.now c.loop-e.e-index 0

-- it has a pattern, which is one of those held, and joins two stations
known : (c : In-loop-e)
    → (link_at c < length c.args.patterns.now) × (pattern_at c.args.patterns.now (link_at c) < patterns_held)
known c =
    let p = c.requires in
    let below = known_at p.3 c.loop-e.e-index c.loop-e-test.true in
    (below, pattern-known _ _ _ p.2 _ below)

within : (c : In-loop-e) → EndsBelow stations_held (ends_at c.args.ends.now (link_at c))
within c = c.requires.1 (link_at c) (get_or-mem c.args.order.now c.loop-e.e-index 0 c.loop-e-test.true)

-- the groups of its pattern
abbrev groups-at : In-loop-e → Forest
groups-at c = get_or c.loop-e.forests (pattern_at c.args.patterns.now (link_at c)) nobody

-- they are led
led-at : (c : In-loop-e) → Led (groups-at c)
led-at c =
    let v = c.loop-e in
    let below : pattern_at c.args.patterns.now (link_at c) < length v.forests = omega (arith, known c, v.invariant.1) in
    v.invariant.2 _ below

pub loop-e-init : goal.loop-e-init
loop-e-init c = (refl, refl, alone-led patterns_held _ c.new-alone.ensures, omega arith, gather-start _ _ _ _ _ _)

pub overflow_cast-i : goal.overflow_cast-i
overflow_cast-i c = let u = known ((goal.at.overflow_cast-i c).In-loop-e) in omega arith

pub bounds-patterns-i : goal.bounds-patterns-i
bounds-patterns-i c = (known ((goal.at.bounds-patterns-i c).In-loop-e)).0

pub overflow_cast-pattern : goal.overflow_cast-pattern
overflow_cast-pattern c = let u = known ((goal.at.overflow_cast-pattern c).In-loop-e) in omega arith

pub bounds-fit-pattern : goal.bounds-fit-pattern
bounds-fit-pattern c = let u = known ((goal.at.bounds-fit-pattern c).In-loop-e) in omega arith

pub overflow_mul-a : goal.overflow_mul-a
overflow_mul-a c = let u = known ((goal.at.overflow_mul-a c).In-loop-e) in omega arith

pub bounds-ends-i : goal.bounds-ends-i
bounds-ends-i c = let u = known ((goal.at.bounds-ends-i c).In-loop-e) in omega (arith, c.requires.0)

pub overflow_mul-b : goal.overflow_mul-b
overflow_mul-b c = let u = known ((goal.at.overflow_mul-b c).In-loop-e) in omega arith

pub overflow_add-b : goal.overflow_add-b
overflow_add-b c = let u = known ((goal.at.overflow_add-b c).In-loop-e) in omega arith

pub bounds-ends-i-then-fit-pattern : goal.bounds-ends-i-then-fit-pattern
bounds-ends-i-then-fit-pattern c = let u = known ((goal.at.bounds-ends-i-then-fit-pattern c).In-loop-e) in omega (arith, ((goal.at.bounds-ends-i-then-fit-pattern c).In-loop-e).requires.0)

pub offset_bounds-forests-pattern : goal.offset_bounds-forests-pattern
offset_bounds-forests-pattern c = let u = known ((goal.at.offset_bounds-forests-pattern c).In-loop-e) in omega arith

pub bounds-forests-pattern : goal.bounds-forests-pattern
bounds-forests-pattern c =
    let u = known ((goal.at.bounds-forests-pattern c).In-loop-e) in
    omega (arith, c.loop-e.invariant.1)

pub find-new-requires : goal.find-new-requires
find-new-requires c = (within ((goal.at.find-new-requires c).In-loop-e)).0

pub find-old-requires : goal.find-old-requires
find-old-requires c = (within ((goal.at.find-old-requires c).In-loop-e)).1

pub join-requires : goal.join-requires
join-requires c =
    leaders-lead (groups-at ((goal.at.join-requires c).In-loop-e)) _ _ c.find-new.ensures c.find-old.ensures (led-at ((goal.at.join-requires c).In-loop-e))

pub offset_bounds-forests-pattern-then-new-old : goal.offset_bounds-forests-pattern-then-new-old
offset_bounds-forests-pattern-then-new-old c = let u = known ((goal.at.offset_bounds-forests-pattern-then-new-old c).In-loop-e) in omega arith

pub bounds-forests-pattern-then-new-old : goal.bounds-forests-pattern-then-new-old
bounds-forests-pattern-then-new-old c = let u = known ((goal.at.bounds-forests-pattern-then-new-old c).In-loop-e) in omega arith

pub bounds-odd-n : goal.bounds-odd-n
bounds-odd-n c = omega (arith, c.requires.3.room)

pub overflow_add-n : goal.overflow_add-n
overflow_add-n c = omega (arith, c.requires.3.room)

pub loop-e-preserved : goal.loop-e-preserved
loop-e-preserved c =
    let v = c.loop-e in
    let s = ((goal.at.loop-e-preserved c).In-loop-e).args in
    let h : v.e-index < length s.order.now = omega arith in
    let m : v.n < length v.odd = omega (arith, ((goal.at.loop-e-preserved c).In-loop-e).requires.3.room) in
    let e = ends_at s.ends.now (link_at ((goal.at.loop-e-preserved c).In-loop-e)) in
    let f = groups-at ((goal.at.loop-e-preserved c).In-loop-e) in
    let fit = c.fit_patterns-fit.result in
    elim c.if-fit-pattern.branch [
      | then-fit-pattern+then-new-old w ↦
          let joins = w.join.ensures ∙ leaders-joined f e.a e.b w.find-new.ensures w.find-old.ensures (led-at ((goal.at.loop-e-preserved c).In-loop-e)) in (
            rw w.odd-is (simp length-set v.invariant.0),
            rw w.forests-is (simp length-set v.invariant.1),
            rw (w.forests-is, joins) (after-led s.ends.now s.patterns.now fit v.forests (link_at ((goal.at.loop-e-preserved c).In-loop-e)) (within ((goal.at.loop-e-preserved c).In-loop-e)) v.invariant.2),
            rw w.n-is (omega arith),
            rw (w.odd-is, w.forests-is, w.n-is, joins)
                (gather-taken _ _ _ _ _ _ _ _ _ v.invariant.4 h m
                (both w.if-fit-pattern.true (leaders-differ f e.a e.b w.find-new.ensures w.find-old.ensures w.if-new-old.true))),
          )
      | then-fit-pattern+else-new-old w ↦ (
        rw w.odd-is v.invariant.0,
        rw w.forests-is v.invariant.1,
        rw w.forests-is v.invariant.2,
        rw w.n-is (omega arith),
        rw (w.odd-is, w.forests-is, w.n-is) (gather-left _ _ _ _ _ _ _ _ _ v.invariant.4 h
            (rw w.if-fit-pattern.true (leaders-equal f e.a e.b w.find-new.ensures w.find-old.ensures w.if-new-old.false))),
      )
      | else-fit-pattern w ↦ (
        rw w.odd-is v.invariant.0,
        rw w.forests-is v.invariant.1,
        rw w.forests-is v.invariant.2,
        rw w.n-is (omega arith),
        rw (w.odd-is, w.forests-is, w.n-is) (gather-left _ _ _ _ _ _ _ _ _ v.invariant.4 h (rw w.if-fit-pattern.false)),
      )
    ]

pub returns : goal.returns
returns c =
    let v = c.loop-e in
    let h : length c.args.order.now ≤ v.e-index = omega arith in
    record {
      links = gather-end _ _ _ _ _ _ _ _ _ v.invariant.4 h
          ∙ kept_whole _ _ _ _ _ _ c.fit_patterns-fit.ensures c.new-alone.ensures;
      few = omega (arith, c.requires.3.room);
    }
