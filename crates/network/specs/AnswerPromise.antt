-- What callers rely on in an answer on a survey (demand 2): a plan is the best tree that fits, and none is reported only if no tree fits; the judge has
-- a plan exactly for a tree. The contract of the ceilings question has `BestPromised`, that of the judge `JudgePromised`.
use Rattle.std.specs.Prelude.{false, ◌↔◌, ◌⊎◌, ℕ, ◌≤◌, ℤ, length}
use mathlib.Core.List.{List}
use Rattle.std.proofs.Math.Path.{◌≡◌}
use Rattle.std.proofs.Math.ListN.{take}
use Rattle.network.specs.Yard.{Tree, bounds, fits, tree_size}
use Rattle.network.specs.Survey.{network_of}
use Rattle.network.specs.PlanList.{costs_of}
use Rattle.network.specs.Refusals.{checked_of}
use Rattle.network.specs.Calls.{cost_values}
use Rattle.network.specs.Meaning.{Best}
use Rattle.network.specs.Network.{Network}
use Rattle.network.specs.Checked.{no_refusal}

-- ---- the ceilings question

-- What a reply of this number and these values means for a yard under bounds, with these links in the first t bytes of the tree buffer.
pub record Answers (net : Network) (bs : List ℤ) (number : ℕ) (values : List ℤ) (links : List ℕ) : Type 0 where
  -- it is a plan or 14
  pub either : (number ≡ 0) ⊎ (number ≡ 14)
  -- a plan: the links are the best tree, which fits, has the least sum of those that fit and is the first of these,
  pub found : number ≡ 0 → Best net bs links
  -- and the values are its sum and its ceiling costs, 0 where a ceiling is absent
  pub costs : number ≡ 0 → values ≡ cost_values (costs_of net links)
  -- 14: no tree fits
  pub none : number ≡ 14 → (ts : List ℕ) → Tree net ts → fits net bs ts ≡ false

-- DEMAND 2, of a ceilings question on survey s that replied with this number and these values and left these bytes: for every accepted survey, every
-- number given and every tree buffer of t bytes or more, whatever it held.
pub record BestPromised (s : List ℕ) (given : List ℤ) (tree : List ℕ) (number : ℕ) (values : List ℤ) (left : List ℕ) : Type 0 where
  pub answers : checked_of s ≡ no_refusal → tree_size (network_of s) ≤ length tree
      → Answers (network_of s) (bounds (network_of s) given) number values (take (tree_size (network_of s)) left)

-- ---- the judge

-- What a reply of this number and these values means for drawn links of a yard.
pub record Judges (net : Network) (drawn : List ℕ) (number : ℕ) (values : List ℤ) : Type 0 where
  -- it is a plan exactly if the links are a tree, written rising
  pub exactly : (number ≡ 0) ↔ Tree net drawn
  -- the values are then its sum and its ceiling costs, 0 where a ceiling is absent
  pub costs : number ≡ 0 → values ≡ cost_values (costs_of net drawn)
  -- else it is 11
  pub otherwise : ¬ Tree net drawn → number ≡ 11

-- DEMAND 2, of a judge that replied so to drawn links: for every accepted survey.
pub record JudgePromised (s drawn : List ℕ) (number : ℕ) (values : List ℤ) : Type 0 where
  pub judges : checked_of s ≡ no_refusal → Judges (network_of s) drawn number values
