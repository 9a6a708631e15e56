-- The reply to a list call and the list buffer after it, by what the survey's check and the walk say.
use Rattle.std.specs.Prelude.{List, ◌≡◌, ℕ, length}
use Rattle.std.proofs.Math.Path.{subst}
use Rattle.network.specs.Checked.{Checked, no_refusal, ◌or_else◌}
use Rattle.network.specs.Refusals.{checked_of}
use Rattle.network.specs.Survey.{network_of}
use Rattle.network.specs.Calls.{if_fine, list_after, list_checked, plans_after, plans_checked}
use Rattle.std.specs.Prelude.{Err}
use Rattle.network.specs.Network.{Network}
use Rattle.network.specs.declared.refusals.Refusal.{Refusal}

module _ (s : List ℕ) (allowance : ℕ) (buffer : List ℕ) where
  -- the survey is refused
  pub list-refused : (r : Refusal) → checked_of s ≡ Err r
      → (Err r ≡ list_checked s allowance (length buffer)) × (buffer ≡ list_after s allowance buffer)
  unfolding list_checked list_after if_fine ◌or_else◌
  list-refused r e = (rw e, rw e)

  -- it is accepted, and the call is made on its network
  pub list-accepted : checked_of s ≡ no_refusal → (net : Network) → net ≡ network_of s → (r : Checked) (left : List ℕ)
      → r ≡ plans_checked net allowance (length buffer) → left ≡ plans_after net allowance buffer
      → (r ≡ list_checked s allowance (length buffer)) × (left ≡ list_after s allowance buffer)
  unfolding list_checked list_after if_fine ◌or_else◌
  list-accepted accepted net same r left e f =
      let reply = subst (λ (w : Network). r ≡ plans_checked w allowance (length buffer)) same e in
      let bytes = subst (λ (w : Network). left ≡ plans_after w allowance buffer) same f in
      (rw accepted reply, rw accepted bytes)
