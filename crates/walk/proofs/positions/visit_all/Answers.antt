-- `walk::positions::visit_all` meets its contract.
use mathlib.Core.List.{List, [], ◌++◌}
use mathlib.Core.Bool.{Bool}
use mathlib.Core.Path.{◌≡◌, refl, sym, ap, ◌∙◌, subst, subst⁻¹, subst₂}
use Prim.Native.Nat.{ℕ, ◌+◌, ◌*◌, ◌≤◌, ◌<◌}
use native.Mathlib.Nat.{mul-le-mul_right}
use native.Mathlib.Omega.{arith}
use lib.IntN.{ℤ}
use lib.ListN.{drop, get_or, length, take}
use lib.Seq.{length-take-le}
use Rattle.network.specs.Calls.{tree_with}
use Rattle.network.specs.Capacities.{ceilings_held, plans_held, tree_held}
use Rattle.network.specs.Checked.{Answer}
use Rattle.network.specs.Network.{Network}
use Rattle.network.specs.PlanList.{buffer_need, head_size, plan_size}
use Rattle.network.proofs.Resting.{working-few}
use Rattle.network.specs.Walk.{position_count, positions}
use Rattle.network.specs.Yard.{best, tree_size, yard}
use Rattle.stations.specs.Stations.{plannable-stations}
use Rattle.solver.specs.Question.{answer_of}
use Rattle.marking.specs.Gridded.{network}
use Rattle.marking.specs.Settle.{Settled}
use Rattle.walk_visit.specs.declared.gridded.GriddedNet.{GriddedNet}
use Rattle.walk_visit.specs.Answered.{Reaches, Taken, Takes, settled_by}
use Rattle.walk_visit.specs.Visit.{asked, best_at, locatable, reaches, settles}
use Rattle.walk_visit.specs.Visited.{slots_of, takes, visited}
use Rattle.walk.specs.Lent.{lent_back}
use Rattle.walk.specs.Progress.{finish, prepared, skip, spent, start, step}
use Rattle.walk.specs.Walked.{ended}
use Rattle.walk.proofs.positions.visit_all.Goals as goal
use Rattle.walk.proofs.positions.visit_all.Goals.{In-loop-n, After-put_position, After-solve-answer}

-- as many positions as the grid has, and the marks have room for them
counted : (g : GriddedNet) → (g.grid.total ≡ position_count (network g.net)) × (position_count (network g.net) ≤ plans_held)
counted g = (g.gridded.total, g.net.plannable.fine.few-positions)

-- a tree has room in its array
tree-room : (g : GriddedNet) → g.net.shape.t ≤ tree_held
tree-room g =
    let can = g.net.plannable in
    omega (arith, can.tree, can.fine.few-stations, working-few g.net.shape.n g.net.shape.rest)

-- the list buffer has room for one more plan
room : (net : Network) (n plans size : ℕ) → n < position_count net → plans ≤ n → buffer_need net ≤ size
    → head_size + (plans + 1) * plan_size (slots_of net) (tree_size net) ≤ size
room net n plans size inside few need =
    let fewer : plans + 1 ≤ position_count net = omega arith in
    omega (arith, mul-le-mul_right (plan_size (slots_of net) (tree_size net)) fewer)

-- a place or a bound for each ceiling
front-length : {A : Type 0} (p : ℕ) (array : List A) → length array ≡ ceilings_held → p ≤ ceilings_held → length (take p array) ≡ p
front-length p array size few = length-take-le p array (omega arith)

-- the question of position n was answered by the best tree under the position's values
answered : (net : Network) (n : ℕ) (bs : List ℤ) (tree left : List ℕ) (a : Answer) → bs ≡ get_or (positions net) n []
    → (a ≡ answer_of net (best net bs)) × (left ≡ tree_with (best net bs) tree) → (a ≡ answer_of net (best_at net n)) × (left ≡ tree_with (best_at net n) tree)
answered net n bs tree left a e h = subst (λ (bs : List ℤ). (a ≡ answer_of net (best net bs)) × (left ≡ tree_with (best net bs) tree)) e h

-- a position that is visited
inside : (c : In-loop-n) → c.loop-n.n < position_count (network c.args.gridded.net)
inside c = omega (arith, c.loop-n-test.true, (counted c.args.gridded).0)

pub order_usable-usable-requires : goal.order_usable-usable-requires
order_usable-usable-requires c =
    let can = c.args.gridded.net.plannable in
    let fine = can.fine in
    (plannable-stations can, omega (arith, fine.sum-count, fine.few-links), λ e h. fine.cheap e (omega (arith, fine.sum-count)))

pub loop-n-init : goal.loop-n-init
loop-n-init c =
    let a = c.args in
    let begun = start (network a.gridded.net) plans_held a.out.now (counted a.gridded).1 in
    (refl, refl, refl, refl, refl, omega arith, omega arith, omega arith, begun)

pub loop-n-preserved-then-marks-n : goal.loop-n-preserved-then-marks-n
loop-n-preserved-then-marks-n c =
    let l = c.loop-n in
    let v = l.invariant in
    let n = inside ((goal.at.loop-n-preserved-then-marks-n c).In-loop-n) in
    (v.0, v.1, v.2, v.3, v.4, omega (arith, v.5), omega (arith, v.6), v.7, skip (network c.args.gridded.net) l.n n v.8 c.if-marks-n.true)

pub returns-then-solved-allowance : goal.returns-then-solved-allowance
returns-then-solved-allowance c =
    let l = c.loop-n in
    let net = network c.args.gridded.net in
    let more = spent net l.n (inside ((goal.at.returns-then-solved-allowance c).In-loop-n)) l.invariant.8 c.if-marks-n.false in
    record { used = c.if-solved-allowance.true; more = omega arith; few = omega (arith, (counted c.args.gridded).0, l.invariant.5, c.loop-n-test.true) }

pub put_position-requires : goal.put_position-requires
put_position-requires c =
    let g = c.args.gridded in
    let l = c.loop-n in
    let few = g.net.plannable.fine.few-ceilings in
    let p = g.net.shape.p in (
      locatable g.net.plannable g.gridded l.n (inside ((goal.at.put_position-requires c).In-loop-n)),
      front-length p l.places l.invariant.0 few,
      front-length p l.bounds l.invariant.1 few,
    )

-- the places and the bounds that are written over the fronts of their arrays
places-back : (c : After-put_position)
    → let p = c.args.gridded.net.shape.p in
    let l = c.put_position.new.places in
    let array = c.loop-n.places in
    (take p (l ++ drop p array) ≡ l) × (length (take p (l ++ drop p array)) ≡ p) × (p ≤ length (l ++ drop p array)) × (length (l ++ drop p array) ≡ ceilings_held)
places-back c =
    let g = c.args.gridded in
    let few = g.net.plannable.fine.few-ceilings in
    let p = g.net.shape.p in
    let same = c.loop-n.invariant.0 in
    lent_back c.put_position.new.places c.loop-n.places p (c.put_position.auto.places ∙ front-length p c.loop-n.places same few) same few

bounds-back : (c : After-put_position)
    → let p = c.args.gridded.net.shape.p in
    let l = c.put_position.new.bounds in
    let array = c.loop-n.bounds in
    (take p (l ++ drop p array) ≡ l) × (length (take p (l ++ drop p array)) ≡ p) × (p ≤ length (l ++ drop p array)) × (length (l ++ drop p array) ≡ ceilings_held)
bounds-back c =
    let g = c.args.gridded in
    let few = g.net.plannable.fine.few-ceilings in
    let p = g.net.shape.p in
    let same = c.loop-n.invariant.1 in
    lent_back c.put_position.new.bounds c.loop-n.bounds p (c.put_position.auto.bounds ∙ front-length p c.loop-n.bounds same few) same few

pub solve-answer-requires : goal.solve-answer-requires
solve-answer-requires c =
    let bounds = bounds-back ((goal.at.solve-answer-requires c).After-put_position) in
    (c.links.ensures ∙ c.order_usable-usable.ensures.links, bounds.1, omega (arith, tree-room c.args.gridded, c.loop-n.invariant.2))

-- position n is answered by its best tree
answer : (c : After-solve-answer)
    → let net = network c.args.gridded.net in
    (c.solve-answer.result ≡ answer_of net (best_at net c.loop-n.n)) × (c.solve-answer.new.tree ≡ tree_with (best_at net c.loop-n.n) c.loop-n.tree)
answer c =
    let g = c.args.gridded in
    let l = c.loop-n in
    let net = network g.net in
    let n = inside ((goal.at.After-solve-answer c).In-loop-n) in
    let bounds = bounds-back ((goal.at.After-solve-answer c).After-put_position) in
    let values = bounds.0 ∙ c.put_position.ensures.1 ∙ asked g.net.plannable g.gridded l.n n refl in
    answered net l.n _ l.tree c.solve-answer.new.tree c.solve-answer.result values c.solve-answer.ensures

-- the tree buffer keeps its length, and has room for the links
links-room : (c : After-solve-answer)
    → let left = c.solve-answer.new.tree in
    (length left ≡ tree_held) × (c.args.gridded.net.shape.t ≤ length left) × (tree_size (network c.args.gridded.net) ≤ length left)
links-room c =
    let g = c.args.gridded in
    let same = c.solve-answer.auto.tree ∙ c.loop-n.invariant.2 in
    (same, omega (arith, same, tree-room g), omega (arith, same, tree-room g, g.net.plannable.tree))

pub settle-requires : goal.settle-requires
settle-requires c =
    let g = c.args.gridded in
    let l = c.loop-n in
    let n = inside ((goal.at.settle-requires c).In-loop-n) in
    let placed = places-back ((goal.at.settle-requires c).After-put_position) in
    let ans = answer ((goal.at.settle-requires c).After-solve-answer) in
    let all : position_count (network g.net) ≤ length l.marks = omega (arith, (counted g).1, l.invariant.3) in
    subst⁻¹ (λ (ps : List ℕ). Reaches g.net.shape g.values.now g.grid ps l.n c.solve-answer.result (length l.marks)) (placed.0 ∙ c.put_position.ensures.0)
    (reaches g.net.plannable g.gridded l.n n refl ans.0 all)

pub slice_bounds-tree-end : goal.slice_bounds-tree-end
slice_bounds-tree-end c = (links-room ((goal.at.slice_bounds-tree-end c).After-solve-answer)).1

pub slice_bounds-take_in-end : goal.slice_bounds-take_in-end
slice_bounds-take_in-end c = sym (length-take-le _ _ (links-room ((goal.at.slice_bounds-take_in-end c).After-solve-answer)).1)

pub take_in-plans-requires : goal.take_in-plans-requires
take_in-plans-requires c =
    let g = c.args.gridded in
    let l = c.loop-n in
    let net = network g.net in
    let n = inside ((goal.at.take_in-plans-requires c).In-loop-n) in
    let solved = (goal.at.take_in-plans-requires c).After-solve-answer in
    let ans = answer solved in
    let free = room net l.n l.plans (length l.out) n l.invariant.5 (omega (arith, c.requires, l.invariant.4)) in
    subst₂ (λ (slots t : ℕ). Takes slots c.solve-answer.result (take t c.solve-answer.new.tree) l.plans l.out) (sym c.plan_slots-slots.ensures.0)
    (sym g.net.plannable.tree)
    (takes net l.n ans.0 l.tree ans.1 (links-room solved).2 (prepared net l.n n l.invariant.8 g.net.plannable.fine free))

pub loop-n-preserved : goal.loop-n-preserved
loop-n-preserved c =
    let g = c.args.gridded in
    let l = c.loop-n in
    let net = network g.net in
    let can = g.net.plannable in
    let n = inside ((goal.at.loop-n-preserved c).In-loop-n) in
    let written = (goal.at.loop-n-preserved c).After-put_position in
    let solved = (goal.at.loop-n-preserved c).After-solve-answer in
    let placed = places-back written in
    let ans = answer solved in
    let by : List ℕ → List Bool = λ ps. settled_by g.net.shape g.values.now g.grid ps l.n c.solve-answer.result l.marks in
    let set = c.settle.ensures ∙ ap by (placed.0 ∙ c.put_position.ensures.0) in
    let all : position_count net ≤ length l.marks = omega (arith, (counted g).1, l.invariant.3) in
    let marked = subst⁻¹ (Settled (yard net) l.n (best_at net l.n) l.marks) set (settles can g.gridded l.n n refl ans.0 l.marks all) in
    let taken =
    subst₂ (λ (slots t : ℕ). Taken slots c.solve-answer.result (take t c.solve-answer.new.tree) l.plans c.take_in-plans.result l.out c.take_in-plans.new.out)
    c.plan_slots-slots.ensures.0 can.tree c.take_in-plans.ensures in
    let few = c.take_in-plans.ensures.bounded in (
      placed.3,
      (bounds-back written).3,
      (links-room solved).0,
      c.settle.auto.marks ∙ l.invariant.3,
      c.take_in-plans.auto.out ∙ l.invariant.4,
      omega (arith, few, l.invariant.5),
      omega (arith, l.invariant.6),
      omega (arith, l.invariant.7, c.if-solved-allowance.false),
      step net l.n n l.invariant.8 c.if-marks-n.false can.fine (visited net l.n ans.0 l.tree ans.1 (links-room solved).2 marked taken),
    )

pub returns : goal.returns
returns c =
    let l = c.loop-n in
    let g = c.args.gridded in
    let all : position_count (network g.net) ≤ l.n = omega (arith, (counted g).0, c.loop-n-test.false) in
    ended (network g.net) (omega (arith, (counted g).0, l.invariant.5)) l.invariant.7 (finish (network g.net) g.net.plannable.fine l.n all l.invariant.8)
