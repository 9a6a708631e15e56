-- The list call on a network: a short buffer, then the allowance spent, then the list.
use Rattle.std.specs.Prelude.{Bool, true, false, cond, Ok, Err, refl, List, ◌≡◌, ℕ, ◌≤◌, ◌<◌, length, replicate}
use Rattle.std.proofs.Common.{sym, ap, ◌∙◌, arith, le-ltb, lt-ltb}
use Rattle.order.specs.Lists.{◌∈◌}
use Rattle.network.specs.Walk.{passes, plans, solved_count}
use Rattle.network.specs.PlanList.{buffer_need, costs_of, filled, plan_slots}
use Rattle.network.specs.Checked.{Checked, refuse_if, ◌or_else◌}
use Rattle.network.specs.Calls.{if_fine, plans_after, plans_checked, room_checked}
use Rattle.network.specs.Yard.{tree_size}
use Rattle.network.specs.Network.{Network}
use Rattle.network.specs.declared.refusals.Rule.TheVariants.{AllowanceSpent, ShortBuffer}
use Rattle.network.specs.declared.refusals.Status.{Status}
use Rattle.planlist_records.specs.Held.{Writable}
use Rattle.planlist_frontier.specs.Finished.{finished}
use Rattle.walk.specs.Walked.{Ended}
use Rattle.walk.specs.declared.positions.Walked.{Walked}
use Rattle.walk.specs.Concluded.{list-filled}

-- A list call that succeeds has plans whose costs a record can hold.
pub record CostsHeld (net : Network) (r : Status) : Type 0 where
  pub each : r.number ≡ 0 → (ts : List ℕ) → ts ∈ plans net → Writable (plan_slots net.p) (costs_of net ts)

-- one that is refused has none to show
pub none-held : (net : Network) {r : Status} → ¬ (r.number ≡ 0) → CostsHeld net r
none-held net h = record { each = λ e. absurd (h e) }

-- a walk that ended has put them into records
pub walk-held : (net : Network) {allowance : ℕ} {bs : List ℕ} {w : Walked} {r : Status} → Ended net allowance bs w → CostsHeld net r
walk-held net e = record { each = λ z ts m. (e.recorded.stored ts m).writable }

module _ (net : Network) (allowance : ℕ) (buffer : List ℕ) where
  -- a reply, and the buffer after it
  pub record Replied (r : Checked) (left : List ℕ) : Type 0 where
    pub reply : r ≡ plans_checked net allowance (length buffer)
    pub leaves : left ≡ plans_after net allowance buffer

  -- those by the tests of the buffer's length and of the solved count
  abbrev reply_by : Bool → Bool → Checked
  reply_by short passes = refuse_if short ShortBuffer 0 or_else refuse_if passes AllowanceSpent 0

  abbrev left_by : Bool → Bool → List ℕ
  left_by short passes = let size = length buffer in if_fine (refuse_if short ShortBuffer 0) (cond passes (replicate size 0) (filled net size)) buffer

  -- the buffer is below its need
  pub short-reply : length buffer < buffer_need net → Replied (Err (record { rule = ShortBuffer; place = 0 })) buffer
  unfolding plans_checked plans_after room_checked refuse_if ◌or_else◌ if_fine
  short-reply h =
      let e = sym (lt-ltb (length buffer) (buffer_need net) h) in
      record { reply = ap (λ (b : Bool). reply_by b (passes net allowance)) e; leaves = ap (λ (b : Bool). left_by b (passes net allowance)) e }

  -- it is not
  module _ (h : buffer_need net ≤ length buffer) where
    enough : (b : Bool) → b ≡ passes net allowance → {r : Checked} {left : List ℕ} → r ≡ reply_by false b → left ≡ left_by false b → Replied r left
    unfolding plans_checked plans_after room_checked
    enough b p q l =
        let e = sym (le-ltb (length buffer) (buffer_need net) h) in
        record { reply = q ∙ (λ i. reply_by (e i) (p i)); leaves = l ∙ (λ i. left_by (e i) (p i)) }

    -- and the walk gives up
    pub spent-reply : allowance < solved_count net → Replied (Err (record { rule = AllowanceSpent; place = 0 })) (replicate (length buffer) 0)
    unfolding refuse_if ◌or_else◌ if_fine
    spent-reply more = enough true (sym (lt-ltb allowance (solved_count net) more)) refl refl

    -- or ends
    pub ended-reply : {after : List ℕ} {w : Walked} → Ended net allowance after w → length after ≡ length buffer
        → Replied (Ok tt) (finished after w.plans w.solved (tree_size net) net.p)
    unfolding refuse_if ◌or_else◌ if_fine
    ended-reply e same =
        let few : solved_count net ≤ allowance = omega (arith, e.solved, e.within) in
        enough false (sym (le-ltb allowance (solved_count net) few)) refl (list-filled net e ∙ ap (filled net) same)
