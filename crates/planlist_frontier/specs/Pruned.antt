-- The pass that drops plans, no longer than it must be.
use Rattle.std.specs.Prelude.{◌≡◌, Bool, List, [], ◌∷◌, ℕ, ◌+◌, ◌-◌, ◌≤◌, ◌<◌, drop}
use Rattle.std.proofs.Math.Path.{refl, sym}
use Rattle.std.proofs.Common.{◌∙◌}
use Rattle.std.proofs.Math.Bool.{cond}
use Rattle.std.proofs.Math.ListN.{take}
use Rattle.std.specs.Int.Signed.{le_z}
use Rattle.network.specs.PlanList.{costs_at, plan_size}
use Rattle.network.specs.declared.Costs.{Costs}
use Rattle.encoding.specs.Blocks.{blocks, blocks-turn}
use Rattle.planlist_records.specs.Held.{costs-turn}
use Rattle.planlist_records.specs.Orders.{at_most}

-- the records whose costs v is not at most, and all from the first with a higher sum on
unfoldable pub pruned_level : ℕ → Costs → List (List ℕ) → List (List ℕ)
pruned_level slots v [] = []
pruned_level slots v (b ∷ bs) =
    let r = pruned_level slots v bs in
    cond (le_z (costs_at slots b 0).sum v.sum) (cond (at_most v (costs_at slots b 0)) r (b ∷ r)) (b ∷ bs)

-- of no records none are left
pub pruned-none : (slots : ℕ) (v : Costs) → pruned_level slots v [] ≡ []
unfolding pruned_level
pruned-none slots v = refl

-- a turn of the loop, at the record at index `at`: by whether its sum is no higher, and whether v is at most it
module _ (slots : ℕ) (v : Costs) (bs : List ℕ) (at left z : ℕ) (more : 0 < left) (wide : plan_size slots 0 ≤ z) where
  pub pruned-turn : {p q : Bool} → le_z (costs_at slots bs at).sum v.sum ≡ p → at_most v (costs_at slots bs at) ≡ q
      → let rest = pruned_level slots v (blocks z (left - 1) (drop (at + z) bs)) in
      pruned_level slots v (blocks z left (drop at bs)) ≡ cond p (cond q rest (take z (drop at bs) ∷ rest)) (blocks z left (drop at bs))
  unfolding pruned_level
  pruned-turn e f =
      let x = take z (drop at bs) in
      let others = blocks z (left - 1) (drop (at + z) bs) in
      let rest = pruned_level slots v others in
      let same = sym (blocks-turn z left at bs more) in
      costs-turn bs at z slots wide left more (pruned_level slots v)
      (λ w. cond (le_z w.sum v.sum) (cond (at_most v w) rest (x ∷ rest)) (x ∷ others)) refl
      ∙ (λ i. cond (e i) (cond (f i) rest (x ∷ rest)) (same i))
