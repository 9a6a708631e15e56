-- What the walk says of itself, and what its buffer then holds.
use Rattle.std.specs.Prelude.{List, MatchResult, Result, ◌≡◌, ℕ, ◌≤◌, ◌<◌, length}
use Rattle.network.specs.PlanList.{costs_of}
use Rattle.network.specs.Walk.{plans, position_count, solved_count}
use Rattle.network.specs.Yard.{yard}
use Rattle.network.specs.Network.{Network}
use Rattle.planlist_frontier.specs.Stored.{absent, holds-count}
use Rattle.walk_visit.specs.Visited.{slots_of}
use Rattle.walk.specs.Progress.{Recorded}
use Rattle.walk.specs.declared.positions.Walked.{Walked}

-- A walk that ended, of a network with an allowance, and the buffer bs after it.
pub record Ended (net : Network) (allowance : ℕ) (bs : List ℕ) (w : Walked) : Type 0 where
  -- the solved count is the definition's, and not above the allowance
  pub solved : w.solved ≡ solved_count net
  pub within : w.solved ≤ allowance
  -- the promised plans are counted, and recorded in the buffer; there are no more than positions
  pub counted : w.plans ≡ length (plans net)
  pub recorded : Recorded net w.plans bs (plans net)
  pub few : w.plans ≤ position_count net

-- A walk that gave up.
pub record Spent (net : Network) (allowance : ℕ) (w : Walked) : Type 0 where
  -- the allowance is used up, and there was more to solve
  pub used : w.solved ≡ allowance
  pub more : allowance < solved_count net
  -- there are no more plans than positions
  pub few : w.plans ≤ position_count net

-- The outcome of a walk: it ended, or it gave up, since more positions are to be solved than allowed.
abbrev pub Outcome : Network → ℕ → List ℕ → Result Walked Walked → Type 0
Outcome net allowance bs r = MatchResult r (Ended net allowance bs) (Spent net allowance)

-- all positions are visited
pub ended : (net : Network) {allowance : ℕ} {bs : List ℕ} {count done : ℕ} → count ≤ position_count net → done ≤ allowance
    → (done ≡ solved_count net) × Recorded net count bs (plans net) → Ended net allowance bs (record { plans = count; solved = done })
ended net few within r = record {
  solved = r.0;
  within = within;
  counted = holds-count (yard net) (slots_of net) (costs_of net) (λ ts. ts) (absent net) r.1;
  recorded = r.1;
  few = few;
}
