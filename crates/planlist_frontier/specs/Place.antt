-- The place of a plan among records: a pass, no longer than it must be, from the first record on whose sum is not lower.
use Rattle.std.specs.Prelude.{◌≡◌, Bool, List, [], ◌∷◌, length, drop}
use Rattle.std.proofs.Math.Path.{refl}
use Rattle.std.proofs.Common.{sym, ap, ◌∙◌, suc-add, zero-add, arith}
use Rattle.std.proofs.Math.Bool.{cond}
use Prim.Native.Nat.{ℕ, suc, ◌+◌, ◌*◌, ◌-◌, ◌≤◌, ◌<◌}
use Rattle.std.specs.Int.Signed.{le_z}
use Rattle.order.specs.Test.{by-test}
use Rattle.network.specs.PlanList.{costs_at, plan_size}
use Rattle.network.specs.declared.Costs.{Costs}
use Rattle.encoding.specs.Blocks.{blocks, drop-blocks, length-blocks}
use Rattle.planlist_records.specs.Held.{costs-turn}
use Rattle.planlist_records.specs.Orders.{at_most, in_order}
use Rattle.planlist_frontier.specs.Lower.{lower_sums, record_sum}

-- the number of records that stand before v; one more than all where, before that place, one of no lower sum is at most v
unfoldable pub free_place : ℕ → Costs → List (List ℕ) → ℕ
free_place slots v [] = 0
free_place slots v (b ∷ bs) =
    let r = suc (free_place slots v bs) in
    cond (le_z v.sum (costs_at slots b 0).sum) (cond (at_most (costs_at slots b 0) v) (suc (length (b ∷ bs))) (cond (in_order v (costs_at slots b 0)) 0 r)) r

-- among no records it is the first place
pub free-none : (slots : ℕ) (v : Costs) → free_place slots v [] ≡ 0
unfolding free_place
free-none slots v = refl

-- the records with a lower sum are passed
free-behind : (slots : ℕ) (v : Costs) (bs : List (List ℕ)) → free_place slots v bs ≡ lower_sums v.sum bs + free_place slots v (drop (lower_sums v.sum bs) bs)
unfolding free_place lower_sums costs_at
free-behind slots v [] = refl
free-behind slots v (b ∷ bs) =
    let from : ℕ → ℕ = λ n. n + free_place slots v (drop n (b ∷ bs)) in
    let low = lower_sums v.sum bs in
    by-test (le_z v.sum (record_sum b))
    (λ e.
    let none : lower_sums v.sum (b ∷ bs) ≡ 0 = rw e in
    sym (zero-add (free_place slots v (b ∷ bs))) ∙ ap from (sym none))
    (λ e.
    let one : lower_sums v.sum (b ∷ bs) ≡ suc low = rw e in
    let passed : free_place slots v (b ∷ bs) ≡ suc (free_place slots v bs) = rw e in
    passed ∙ ap suc (free-behind slots v bs) ∙ sym (suc-add low (free_place slots v (drop low bs))) ∙ ap from (sym one))

-- and the place is behind them, by that among the others
pub free-start : (slots : ℕ) (v : Costs) (z n : ℕ) (bs : List ℕ) {low : ℕ} → low ≡ lower_sums v.sum (blocks z n bs) → low ≤ n
    → free_place slots v (blocks z n bs) + (n - low) ≡ n + free_place slots v (blocks z (n - low) (drop (low * z) bs))
free-start slots v z n bs {low} e h =
    let passed : free_place slots v (blocks z n bs) ≡ low + free_place slots v (drop low (blocks z n bs)) = rw e (free-behind slots v (blocks z n bs)) in
    let others = ap (free_place slots v) (drop-blocks z low n bs h) in
    omega arith

-- a turn of the loop, at the record at index `at`: by whether its sum is no lower, whether it is at most v, and whether v stands before it
module _ (slots : ℕ) (v : Costs) (bs : List ℕ) (at left z : ℕ) (more : 0 < left) (wide : plan_size slots 0 ≤ z) where
  pub free-turn : {o p q : Bool} → le_z v.sum (costs_at slots bs at).sum ≡ o → at_most (costs_at slots bs at) v ≡ p → in_order v (costs_at slots bs at) ≡ q
      → let rest = suc (free_place slots v (blocks z (left - 1) (drop (at + z) bs))) in
      free_place slots v (blocks z left (drop at bs)) ≡ cond o (cond p (suc left) (cond q 0 rest)) rest
  unfolding free_place
  free-turn d e f =
      let others = blocks z (left - 1) (drop (at + z) bs) in
      let rest = suc (free_place slots v others) in
      let all : suc (length others) ≡ left = omega (arith, length-blocks z (left - 1) (drop (at + z) bs)) in
      costs-turn bs at z slots wide left more (free_place slots v)
      (λ w. cond (le_z v.sum w.sum) (cond (at_most w v) (suc (suc (length others))) (cond (in_order v w) 0 rest)) rest) refl
      ∙ (λ i. cond (d i) (cond (e i) (suc (all i)) (cond (f i) 0 rest)) rest)
