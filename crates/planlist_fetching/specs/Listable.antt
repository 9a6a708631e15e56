-- The list of an accepted survey keeps within what a plan list may hold, so that its plans are found, and its records say what they are.
use Rattle.std.specs.Prelude.{List, [], ◌++◌, ◌≡◌, ℕ, ◌≤◌, ◌<◌, get_or, length}
use Rattle.std.proofs.Common.{ap, ◌∙◌, arith, lt-ltb}
use Rattle.order.specs.Lists.{◌∈◌}
use Rattle.order.proofs.Lists.{get_or-mem}
use Rattle.frontier.proofs.Plans.{plans-few}
use Rattle.network.specs.Limits.{max_ceilings, max_plans, max_tree}
use Rattle.network.specs.Yard.{tree_size, yard}
use Rattle.network.specs.Walk.{plans}
use Rattle.network.specs.Survey.{network_of}
use Rattle.network.specs.PlanList.{costs_of, list_bytes, plan_slots}
use Rattle.network.specs.Refusals.{checked_of}
use Rattle.network.specs.Fetching.{head_count}
use Rattle.network.proofs.Meaning.{tree-size}
use Rattle.network.proofs.NetworkFine.{survey-fine, survey-limits, survey-sound, tree-limit}
use Rattle.network.specs.Promise.{Reads}
use Rattle.network.proofs.Promise.{complete}
use Rattle.network.specs.Checked.{no_refusal}
use Rattle.planlist_records.specs.Held.{Writable}
use Rattle.planlist_fetching.specs.Fetched.{listed-costs, listed-count, listed-links, listed-number}

-- a list that the planner made keeps within what a plan list may hold
pub record Listable (s : List ℕ) : Type 0 where
  pub full : (ts : List ℕ) → ts ∈ plans (network_of s) → length ts ≡ tree_size (network_of s)
  pub few : length (plans (network_of s)) ≤ max_plans
  pub short : tree_size (network_of s) ≤ max_tree
  pub flat : (network_of s).p ≤ max_ceilings

pub listable : (s : List ℕ) → checked_of s ≡ no_refusal → Listable s
listable s accepted =
    let net = network_of s in
    let limits = survey-limits s accepted in
    let ranked = (survey-fine s accepted).rank-count in
    let sound = survey-sound s accepted in
    let list = complete net sound in
    record {
      full = λ ts m. tree-size net sound ts (list.only-trees ts m);
      few = omega (arith, plans-few (yard net), ap length list.by-walk, list.count, limits.positions);
      short = tree-limit net limits;
      flat = omega arith;
    }

-- with whatever follows it, its head counts the plans,
pub list_counted : (s rest : List ℕ) → checked_of s ≡ no_refusal → head_count (list_bytes (network_of s) ++ rest) ≡ length (plans (network_of s))
list_counted s rest accepted =
    let l = listable s accepted in listed-count (network_of s) rest l.full l.few l.short l.flat 0

-- and record r is that of plan r, where records can hold the costs of all plans
pub list-reads : (s rest : List ℕ) → checked_of s ≡ no_refusal
    → ((ts : List ℕ) → ts ∈ plans (network_of s) → Writable (plan_slots (network_of s).p) (costs_of (network_of s) ts))
    → (r : ℕ) → r < length (plans (network_of s)) → Reads (list_bytes (network_of s) ++ rest) r (network_of s) (get_or (plans (network_of s)) r [])
list-reads s rest accepted held r h =
    let l = listable s accepted in
    let net = network_of s in
    record {
      found = listed-number net rest l.full l.few l.short l.flat r ∙ rw (lt-ltb r (length (plans net)) h);
      costs = listed-costs net rest l.full l.few l.short l.flat r h (held _ (get_or-mem (plans net) r [] h));
      links = listed-links net rest l.full l.few l.short l.flat r;
    }
