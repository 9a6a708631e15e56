-- A reply and bytes that are those of the list call's definitions keep the promise, where records can hold the costs of the plans.
use Rattle.std.specs.Prelude.{List, ◌≡◌, ℕ, ◌-◌, ◌≤◌, length, replicate}
use Rattle.std.proofs.Common.{ap, ◌∙◌, arith, le-ltb}
use Rattle.network.specs.Walk.{solved_count}
use Rattle.network.specs.Survey.{network_of}
use Rattle.network.specs.PlanList.{buffer_need, filled, list_bytes}
use Rattle.network.specs.Checked.{refuse_if, ◌or_else◌}
use Rattle.network.specs.Refusals.{checked_of}
use Rattle.network.specs.Calls.{if_fine, list_after, list_checked, list_status, plans_after, plans_checked, room_checked, status}
use Rattle.network.proofs.NetworkFine.{survey-sound}
use Rattle.network.specs.Promise.{Promised}
use Rattle.network.proofs.Promise.{complete}
use Rattle.network.specs.Network.{Network}
use Rattle.std.specs.Prelude.{Err}
use Rattle.network.specs.Checked.{no_refusal}
use Rattle.network.specs.declared.refusals.Refusal.{Refusal}
use Rattle.network.specs.declared.refusals.Status.{Status}
use Rattle.planlist_fetching.specs.Listable.{list_counted, list-reads}
use Rattle.walk.specs.Call.{CostsHeld}

-- a survey that is refused is not accepted
pub refused-held : (s : List ℕ) {q : Refusal} {net : Network} {r : Status} → checked_of s ≡ Err q → checked_of s ≡ no_refusal → CostsHeld net r
refused-held s e f = let z : ◌≡◌ {A = ℕ} 0 1 = cc in absurd (omega arith)

-- THE PROMISE KEPT
pub promised : (s : List ℕ) (allowance : ℕ) (buffer : List ℕ) {r : Status} {left : List ℕ} → r ≡ list_status s allowance (length buffer)
    → left ≡ list_after s allowance buffer → (checked_of s ≡ no_refusal → CostsHeld (network_of s) r) → Promised s allowance buffer r left
unfolding list_status list_checked room_checked plans_checked plans_after list_after if_fine status refuse_if ◌or_else◌
promised s allowance buffer {r} {left} e f held =
    record {
      delivers = λ fine room enough.
          let net = network_of s in
          let list = complete net (survey-sound s fine) in
          let few : solved_count net ≤ allowance = omega (arith, list.count) in
          let short = le-ltb (length buffer) (buffer_need net) room in
          let within = le-ltb allowance (solved_count net) few in
          let succeeds : r ≡ record { number = 0; place = 0 } = e ∙ rw (fine, short, within) in
          let bytes : left ≡ filled net (length buffer) = f ∙ rw (fine, short, within) in
          let costs = (held fine).each (ap (λ (a : Status). a.number) succeeds) in
          let zeros : List ℕ = replicate (length buffer - length (list_bytes net)) 0 in
          record {
            succeeds = succeeds;
            bytes = bytes;
            list = list;
            counted = rw bytes (list_counted s zeros fine);
            records = λ k h. rw bytes (list-reads s zeros fine costs k h);
          };
    }
