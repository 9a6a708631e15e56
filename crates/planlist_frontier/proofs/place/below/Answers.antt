use mathlib.Core.Path.{sym, ap, ◌∙◌}
use Prim.Native.Nat.{ℕ, ◌+◌, ◌*◌, ◌/◌, ◌≤◌, ◌<◌}
use native.Mathlib.Omega.{arith}
use lib.IntN.{ℤ}
use lib.ListN.{length}
use lib.Signed.{le_z}
use mir.Syntax.{w32}
use mir.Val.{of_z, to_z}
use mir.ValLaws.{to_z-of_z}
use Rattle.encoding.specs.Blocks.{blocks, length-blocks}
use Rattle.planlist_frontier.specs.Lower.{halved-back, halved-end, halved-front, halved-start, lower_sums, record-fits, sum-tested}
use borrow.Author.Rules.{rules}
use Rattle.planlist_frontier.proofs.place.below.Goals as goal

pub loop-left-init : goal.loop-left-init
loop-left-init c =
    let counted = length-blocks c.args.size c.args.count c.args.plans.now in
    (omega arith, halved-start _ _ (omega (arith, counted)))

pub overflow_add-mid : goal.overflow_add-mid
overflow_add-mid c = omega arith

-- the record in the middle lies within
within : (low left count size room : ℕ) → low + left ≤ count → 0 < left → count * size ≤ room → (low + left / 2) * size + size ≤ room
within low left count size room h more fits = record-fits (low + left / 2) count size fits (omega arith)

pub overflow_mul-mid : goal.overflow_mul-mid
overflow_mul-mid c =
    let l = c.loop-left in
    omega (arith, within l.low l.left c.args.count c.args.size (length c.args.plans.now) l.invariant.0 c.loop-left-test.true c.requires.room, c.well_formed)

pub sum_in-requires : goal.sum_in-requires
sum_in-requires c =
    let l = c.loop-left in
    omega (arith, within l.low l.left c.args.count c.args.size (length c.args.plans.now) l.invariant.0 c.loop-left-test.true c.requires.room, c.requires.wide)

pub loop-left-preserved-then-sum-sum_in : goal.loop-left-preserved-then-sum-sum_in
loop-left-preserved-then-sum-sum_in c =
    let a = c.args in
    let l = c.loop-left in
    let sum : ℤ = to_z w32 (of_z w32 a.sum) in
    let mid = l.low + l.left / 2 in
    let counted = length-blocks a.size a.count a.plans.now in
    let read = c.sum_in in
    let test = sym (ap (le_z sum) (to_z-of_z w32 read.result (search rules) ∙ read.ensures)) ∙ c.if-sum-sum_in.true in
    let compared = sum-tested sum a.size a.count a.plans.now mid c.requires.wide (omega arith) test in
    (omega arith, halved-front _ _ c.requires.sums l.invariant.1 mid (omega (arith, counted)) compared)

pub loop-left-preserved : goal.loop-left-preserved
loop-left-preserved c =
    let a = c.args in
    let l = c.loop-left in
    let sum : ℤ = to_z w32 (of_z w32 a.sum) in
    let mid = l.low + l.left / 2 in
    let counted = length-blocks a.size a.count a.plans.now in
    let read = c.sum_in in
    let test = sym (ap (le_z sum) (to_z-of_z w32 read.result (search rules) ∙ read.ensures)) ∙ c.if-sum-sum_in.false in
    let compared = sum-tested sum a.size a.count a.plans.now mid c.requires.wide (omega arith) test in
    (omega arith, halved-back _ _ c.requires.sums l.invariant.1 mid (omega (arith, counted)) (omega arith) compared)

pub returns : goal.returns
returns c =
    let l = c.loop-left in
    let a = c.args in
    let counted = length-blocks a.size a.count a.plans.now in
    halved-end _ _ l.low l.invariant.1 (omega arith) (omega (arith, counted))
    ∙ ap (λ (x : ℤ). lower_sums x (blocks a.size a.count a.plans.now)) (to_z-of_z w32 a.sum (search rules))
