-- The judge's reply, by what the survey's check and the test of the tree say.
use Rattle.std.specs.Prelude.{false, true, List, ◌≡◌, ℕ}
use Rattle.std.proofs.Math.Path.{ap}
use Rattle.std.proofs.Common.{◌∙◌}
use Rattle.network.specs.Network.{Network}
use Rattle.network.specs.Yard.{is_tree}
use Rattle.network.specs.PlanList.{costs_of}
use Rattle.network.specs.Checked.{refuse_if, ◌or_else◌}
use Rattle.network.specs.Refusals.{checked_of}
use Rattle.network.specs.Calls.{cost_values, drawn_checked, judged, reply, says}
use Rattle.network.specs.Survey.{network_of}
use Rattle.std.specs.Prelude.{Ok, Err}
use Rattle.network.specs.Checked.{no_refusal}
use Rattle.network.specs.declared.refusals.Rule.TheVariants.{NoTree}
use Rattle.network.specs.declared.Costs.{Costs}
use Rattle.network.specs.declared.refusals.Refusal.{Refusal}

module _ (s drawn : List ℕ) where
  -- the survey is refused
  pub judged-refused : (r : Refusal) → checked_of s ≡ Err r → says (Err r) ≡ judged s drawn
  unfolding judged drawn_checked reply says ◌or_else◌
  judged-refused r e = rw e

  -- it is accepted, and its network is net
  module _ (accepted : checked_of s ≡ no_refusal) (net : Network) (same : net ≡ network_of s) where
    -- the links are a tree
    pub judged-tree : (v : Costs) → is_tree net drawn ≡ true → v ≡ costs_of net drawn → says (Ok v) ≡ judged s drawn
    unfolding judged drawn_checked reply says refuse_if ◌or_else◌
    judged-tree v t e = ap (λ (w : Costs). reply no_refusal (cost_values w)) e ∙ rw (accepted, ← same, t)

    -- they are none
    pub judged-no-tree : is_tree net drawn ≡ false → says (Err (record { rule = NoTree; place = 0 })) ≡ judged s drawn
    unfolding judged drawn_checked reply says refuse_if ◌or_else◌
    judged-no-tree t = rw (accepted, ← same, t)
