-- After so many links the arrays hold what is kept of them, with the groups after each link; no more than `goal` links are kept.
use Prim.Native.Nat.{ℕ, ◌+◌, ◌≤◌}
use mathlib.Core.Bool.{true}
use mathlib.Core.Path.{◌≡◌, refl, ◌∙◌}
use native.Mathlib.Omega.{arith}
use lib.ListN.{length, length-set, get_or}
use Rattle.order.proofs.Lists.{get_or-mem}
use Rattle.spanning.specs.Labelling.{Edge, crosses}
use Rattle.spanning.specs.LabelList.{label_of}
use Rattle.spanning.specs.Tree.{EndsBelow}
use Rattle.network.specs.Capacities.{stations_held}
use Rattle.network.specs.Yard.{ends_at}
use Rattle.forest.specs.Groups.{leaders-differ, leaders-equal, leaders-joined, leaders-lead}
use Rattle.kruskal.specs.Tree.{Usable, walk-usable}
use Rattle.kruskal.specs.Basing.{basing-end, basing-full, basing-left, basing-start, basing-taken, joinable-near, taken-few}
use Rattle.kruskal.proofs.links.put_base.Goals as goal
use Rattle.kruskal.proofs.links.put_base.Goals.{In-loop-link, Then-new-old, then-new-old+else-count-goal, else-new-old}

-- the link at a turn, and what it joins
abbrev link_at : In-loop-link → ℕ
link_at c = get_or c.args.links.now c.loop-link.link-index 0

abbrev ends-at : In-loop-link → Edge
ends-at c = ends_at c.args.ends.now (link_at c)

-- it is one of the links, and joins two stations
usable : (c : In-loop-link) → Usable c.args.sums.now (link_at c)
usable c = walk-usable c.requires.1 _ c.loop-link-test.true

within : (c : In-loop-link) → EndsBelow stations_held (ends-at c)
within c = joinable-near c.requires.2 (link_at c) (get_or-mem c.args.links.now c.loop-link.link-index 0 c.loop-link-test.true)

-- the link joins two groups, and so there is room for it
crossing : (c : Then-new-old) → crosses (label_of c.loop-link.forest.leader) (ends_at c.args.ends.now (get_or c.args.links.now c.loop-link.link-index 0)) ≡ true
crossing c =
    let e = ends_at c.args.ends.now (get_or c.args.links.now c.loop-link.link-index 0) in
    leaders-differ c.loop-link.forest e.a e.b c.find-new.ensures c.find-old.ensures c.if-new-old.true

roomy : (c : Then-new-old) → c.loop-link.count + 1 ≤ c.args.goal
roomy c = taken-few _ _ _ c.requires.2 c.loop-link.invariant.2 c.loop-link-test.true (crossing c)

pub loop-link-init : goal.loop-link-init
loop-link-init c = (refl, refl, basing-start _ _ _ c.new-forest.ensures c.requires.3)

pub bounds-ends-number : goal.bounds-ends-number
bounds-ends-number c = let u = usable ((goal.at.bounds-ends-number c).In-loop-link) in omega (arith, u.below, c.requires.0)

pub find-new-requires : goal.find-new-requires
find-new-requires c = (within ((goal.at.find-new-requires c).In-loop-link)).0

pub bounds-ends-number-in-loop-link : goal.bounds-ends-number-in-loop-link
bounds-ends-number-in-loop-link c = let u = usable ((goal.at.bounds-ends-number-in-loop-link c).In-loop-link) in omega (arith, u.below, c.requires.0)

pub find-old-requires : goal.find-old-requires
find-old-requires c = (within ((goal.at.find-old-requires c).In-loop-link)).1

pub join-forest-requires : goal.join-forest-requires
join-forest-requires c = leaders-lead c.loop-link.forest _ _ c.find-new.ensures c.find-old.ensures c.loop-link.invariant.2.led

pub bounds-history-count : goal.bounds-history-count
bounds-history-count c = omega (arith, c.requires.4, c.loop-link.invariant.1, roomy ((goal.at.bounds-history-count c).Then-new-old))

pub bounds-base-count : goal.bounds-base-count
bounds-base-count c = omega (arith, c.loop-link.invariant.2.fewer, c.loop-link.invariant.2.room, c.loop-link-test.true)

pub overflow_add-sum : goal.overflow_add-sum
overflow_add-sum c =
    omega (arith, c.loop-link.invariant.2.light, (usable ((goal.at.overflow_add-sum c).In-loop-link)).cheap, roomy ((goal.at.overflow_add-sum c).Then-new-old), c.requires.2.held)

pub overflow_add-count : goal.overflow_add-count
overflow_add-count c = omega (arith, roomy ((goal.at.overflow_add-count c).Then-new-old), c.requires.2.held)

pub returns-then-count-goal : goal.returns-then-count-goal
returns-then-count-goal c =
    let at = goal.at.returns-then-count-goal c in
    let v = c.loop-link in
    let space : c.args.goal ≤ length v.history = omega (arith, c.requires.4, v.invariant.1) in
    let more = basing-taken _ _ _ c.requires.2 v.invariant.2 c.loop-link-test.true (crossing at.Then-new-old)
    (c.join-forest.ensures ∙ leaders-joined _ _ _ c.find-new.ensures c.find-old.ensures v.invariant.2.led) space refl
    (usable at.In-loop-link) in
    basing-full _ _ _ c.requires.2 more (omega (arith, c.loop-link-test.true)) c.if-count-goal.true

pub loop-link-preserved : goal.loop-link-preserved
loop-link-preserved c =
    let at = goal.at.loop-link-preserved c in
    let v = c.loop-link in
    let e = ends_at c.args.ends.now (get_or c.args.links.now v.link-index 0) in
    let next : v.link-index + 1 ≤ length c.args.links.now = omega (arith, c.loop-link-test.true) in
    let space : c.args.goal ≤ length v.history = omega (arith, c.requires.4, v.invariant.1) in
    elim c.if-new-old.branch [
      | then-new-old+else-count-goal w ↦
          let cross = leaders-differ v.forest e.a e.b c.find-new.ensures c.find-old.ensures w.if-new-old.true in
          let few = taken-few _ _ _ c.requires.2 v.invariant.2 c.loop-link-test.true cross in
          let more = basing-taken _ _ _ c.requires.2 v.invariant.2 c.loop-link-test.true cross
          (w.join-forest.ensures ∙ leaders-joined _ _ _ c.find-new.ensures c.find-old.ensures v.invariant.2.led) space refl
          (usable at.In-loop-link) in (
            rw w.base-is (simp length-set v.invariant.0),
            rw w.history-is (simp length-set v.invariant.1),
            rw (w.forest-is, w.base-is, w.history-is, w.count-is, w.sum-is) more,
          )
      | else-new-old w ↦ (
        rw w.base-is v.invariant.0,
        rw w.history-is v.invariant.1,
        rw (w.forest-is, w.base-is, w.history-is, w.count-is, w.sum-is)
            (basing-left _ _ _ c.requires.2 v.invariant.2 c.loop-link-test.true
            (leaders-equal v.forest e.a e.b c.find-new.ensures c.find-old.ensures w.if-new-old.false)),
      )
    ]

pub returns : goal.returns
returns c = basing-end _ _ _ c.requires.2 c.loop-link.invariant.2 (omega arith)
