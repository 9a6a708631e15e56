-- `planlist_frontier::pruning::prune` meets its contract.
use mathlib.Core.Bool.{Bool, cond, true, false}
use mathlib.Core.List.{List, ◌∷◌, ◌++◌, append-nil}
use mathlib.Core.Path.{◌≡◌, refl, sym, ap, ap₂, ◌∙◌}
use Prim.Native.Nat.{ℕ, ◌+◌, ◌*◌, ◌-◌, ◌≤◌, ◌<◌}
use native.Mathlib.Nat.{mul-le-mul_right, sub-zero, zero-mul}
use native.Mathlib.Omega.{arith}
use borrow.Author.Rules.{rules}
use lib.IntN.{ℤ}
use lib.ListN.{drop, length, take}
use lib.Seq.{append_snoc}
use lib.Signed.{le_z, lt_z}
use mir.Facts.{to_z-of_z}
use mir.Syntax.{w32}
use mir.Val.{SFits, of_z, to_z}
use Rattle.std.proofs.lemmas.Int.{ints}
use Rattle.network.specs.PlanList.{costs_at}
use Rattle.network.specs.declared.Costs.{Costs}
use Rattle.buffers.specs.Overwrite.{overwrite}
use Rattle.encoding.specs.Blocks.{behind_moved, blocks, blocks-joined, blocks-moved, blocks-none}
use Rattle.planlist_records.specs.Orders.{at_most}
use Rattle.planlist_frontier.specs.Lower.{record-fits, records-split}
use Rattle.planlist_frontier.specs.Pruned.{pruned-none, pruned-turn, pruned_level}
use Rattle.planlist_frontier.proofs.pruning.prune.Goals as goal
use Rattle.planlist_frontier.proofs.pruning.prune.Goals.{In-loop-i, After-costs_at-w}

-- what the test of the sums says of v and the record's costs
higher : (a b : ℤ) → lt_z a b ≡ true → le_z b a ≡ false
higher a b h = grind (arith, ints)

no_higher : (a b : ℤ) → lt_z a b ≡ false → le_z b a ≡ true
no_higher a b h = grind (arith, ints)

tested : (v w held : Costs) → SFits w32 v.sum → SFits w32 w.sum → w ≡ held → {b : Bool} → lt_z (to_z w32 (of_z w32 v.sum)) (to_z w32 (of_z w32 w.sum)) ≡ b
    → lt_z v.sum held.sum ≡ b
tested v w held f g is e =
    sym (ap₂ lt_z (to_z-of_z f) (to_z-of_z g) ∙ ap (λ (w : Costs). lt_z v.sum w.sum) is) ∙ e

-- the records from the i-th on lie within
within : (c : In-loop-i)
    → let i = c.loop-i.i in
    let z = c.args.size in
    (i * z + (c.args.count - i) * z ≤ length c.loop-i.plans) × (i * z + z ≤ length c.loop-i.plans) × (c.loop-i.kept * z ≤ i * z)
within c =
    let a = c.args in
    let l = c.loop-i in
    let inside : l.i < a.count = c.loop-i-test.true in
    let split = records-split l.i a.count a.size (omega arith) in (
      omega (arith, split, c.requires.1, l.invariant.0),
      omega (arith, record-fits l.i a.count a.size c.requires.1 inside, l.invariant.0),
      mul-le-mul_right a.size l.invariant.1,
    )

-- the turn at record i
turn : (c : After-costs_at-w) {p q : Bool}
    → let a = c.args in
    let l = c.loop-i in
    let at = l.i * a.size in
    le_z (costs_at a.slots l.plans at).sum a.v.sum ≡ p → at_most a.v (costs_at a.slots l.plans at) ≡ q
    → let rest = pruned_level a.slots a.v (blocks a.size (a.count - (l.i + 1)) (drop ((l.i + 1) * a.size) l.plans)) in
    pruned_level a.slots a.v (blocks a.size (a.count - l.i) (drop at l.plans))
    ≡ cond p (cond q rest (take a.size (drop at l.plans) ∷ rest)) (blocks a.size (a.count - l.i) (drop at l.plans))
turn c {p} {q} e f =
    let a = c.args in
    let l = c.loop-i in
    let at = l.i * a.size in
    let more : 0 < a.count - l.i = omega (arith, c.loop-i-test.true) in
    let fewer : a.count - l.i - 1 ≡ a.count - (l.i + 1) = omega arith in
    let next : at + a.size ≡ (l.i + 1) * a.size = omega arith in
    let rest : List (List ℕ) → List (List ℕ) = λ r. cond p (cond q r (take a.size (drop at l.plans) ∷ r)) (blocks a.size (a.count - l.i) (drop at l.plans)) in
    pruned-turn a.slots a.v l.plans at (a.count - l.i) a.size more c.requires.0 e f
    ∙ ap rest (ap₂ (λ (n k : ℕ). pruned_level a.slots a.v (blocks a.size n (drop k l.plans))) fewer next)

pub move_within-requires : goal.move_within-requires
move_within-requires c =
    let inside = within ((goal.at.move_within-requires c).In-loop-i) in
    (inside.0, omega (arith, inside.0, inside.2))

pub loop-i-init : goal.loop-i-init
loop-i-init c =
    let a = c.args in
    let all = λ (n k : ℕ). pruned_level a.slots a.v (blocks a.size n (drop k a.plans.now)) in
    let none = ap (λ (l : List (List ℕ)). l ++ all (a.count - 0) (0 * a.size)) (sym (blocks-none a.size 0 a.plans.now refl)) in
    (refl, omega arith, sym (ap₂ all (sub-zero a.count) (zero-mul a.size)) ∙ none)

pub loop-i-preserved-then-at_most : goal.loop-i-preserved-then-at_most
loop-i-preserved-then-at_most c =
    let a = c.args in
    let l = c.loop-i in
    let w = c.costs_at-w in
    let held = costs_at a.slots l.plans (l.i * a.size) in
    let low = no_higher a.v.sum held.sum (tested a.v w.result held (search rules) (search rules) w.ensures c.if-v-w.false) in
    let most = sym (c.at_most.ensures ∙ ap (at_most a.v) w.ensures) ∙ c.if-at_most.true in (
      l.invariant.0,
      omega (arith, l.invariant.1),
      l.invariant.2 ∙ ap (λ (r : List (List ℕ)). blocks a.size l.kept l.plans ++ r) (turn ((goal.at.loop-i-preserved-then-at_most c).After-costs_at-w) low most),
    )

pub loop-i-preserved : goal.loop-i-preserved
loop-i-preserved c =
    let a = c.args in
    let l = c.loop-i in
    let z = a.size in
    let w = c.costs_at-w in
    let old = l.plans in
    let at = l.i * z in
    let to = l.kept * z in
    let held = costs_at a.slots old at in
    let low = no_higher a.v.sum held.sum (tested a.v w.result held (search rules) (search rules) w.ensures c.if-v-w.false) in
    let most = sym (c.at_most.ensures ∙ ap (at_most a.v) w.ensures) ∙ c.if-at_most.false in
    let part = take z (drop at old) in
    let others : List ℕ → List (List ℕ) = λ t. pruned_level a.slots a.v (blocks z (a.count - (l.i + 1)) t) in
    let moved = c.move_within-in-loop-i in
    let inner = within ((goal.at.loop-i-preserved c).In-loop-i) in
    let next : (l.i + 1) * z ≡ at + z = omega arith in
    let later = behind_moved z old at to l.kept refl inner.2 inner.1 in (
      moved.auto.out ∙ l.invariant.0,
      omega (arith, l.invariant.1),
      l.invariant.2
          ∙ ap (λ (r : List (List ℕ)). blocks z l.kept old ++ r) (turn ((goal.at.loop-i-preserved c).After-costs_at-w) low most)
          ∙ sym (append_snoc (blocks z l.kept old) part (others (drop ((l.i + 1) * z) old)))
          ∙ sym (ap₂ (λ (r : List (List ℕ)) (t : List ℕ). r ++ others t) (blocks-moved z old at to l.kept refl inner.2 inner.1)
          (ap (λ (k : ℕ). drop k (overwrite old to part)) next ∙ later ∙ ap (λ (k : ℕ). drop k old) (sym next)))
          ∙ ap (λ (o : List ℕ). blocks z (l.kept + 1) o ++ others (drop ((l.i + 1) * z) o)) (sym moved.ensures),
    )

pub returns-then-v-w : goal.returns-then-v-w
returns-then-v-w c =
    let a = c.args in
    let l = c.loop-i in
    let z = a.size in
    let w = c.costs_at-w in
    let held = costs_at a.slots l.plans (l.i * z) in
    let high = higher a.v.sum held.sum (tested a.v w.result held (search rules) (search rules) w.ensures c.if-v-w.true) in
    let inner = within ((goal.at.returns-then-v-w c).In-loop-i) in (
      omega (arith, l.invariant.1),
      ap (blocks z (l.kept + (a.count - l.i))) c.move_within.ensures
          ∙ blocks-joined z l.plans (l.i * z) (l.kept * z) l.kept (a.count - l.i) refl inner.2 inner.0
          ∙ sym (l.invariant.2 ∙ ap (λ (r : List (List ℕ)). blocks z l.kept l.plans ++ r) (turn ((goal.at.returns-then-v-w c).After-costs_at-w) high refl)),
    )

pub returns : goal.returns
returns c =
    let l = c.loop-i in
    let a = c.args in
    let front = blocks a.size l.kept l.plans in
    let none = ap (pruned_level a.slots a.v) (blocks-none a.size (a.count - l.i) (drop (l.i * a.size) l.plans) (omega arith)) ∙ pruned-none a.slots a.v in
    (omega (arith, l.invariant.1), sym (l.invariant.2 ∙ ap (λ (r : List (List ℕ)). front ++ r) none ∙ append-nil front))
