-- What callers rely on in the trees of a yard by their numbers: each tree has one number below the count, and no number there is without a tree; lower
-- numbers come first in dictionary order.
-- The contracts of the two calls have `CountPromised` and `TreePromised`.
use Rattle.std.specs.Prelude.{List, [], ◌∷◌, ◌↔◌, ◌⊎◌, ◌≡◌, ℕ, ◌≤◌, ◌<◌, ℤ, pos, length, take}
use Rattle.order.specs.Order.{Less, dictionary, orderℕ}
use Rattle.network.specs.Limits.{max_enumerated}
use Rattle.network.specs.Network.{Network}
use Rattle.network.specs.Yard.{Tree, tree_size}
use Rattle.network.specs.Survey.{network_of}
use Rattle.network.specs.PlanList.{costs_of}
use Rattle.network.specs.Refusals.{checked_of}
use Rattle.network.specs.Calls.{cost_values, judged}
use Rattle.network.specs.EveryTree.{tree_at, tree_count}
use Rattle.network.specs.Checked.{no_refusal}

-- the trees of a yard by their numbers
pub record Numbered (net : Network) : Type 0 where
  -- a number below the count is that of a tree
  pub only-trees : (r : ℕ) → r < tree_count net → Tree net (tree_at net r)
  -- each tree has a number there
  pub each : (ts : List ℕ) → Tree net ts → (r : ℕ) × (r < tree_count net) × (ts ≡ tree_at net r)
  -- and no second one
  pub once : (q r : ℕ) → q < tree_count net → r < tree_count net → tree_at net q ≡ tree_at net r → q ≡ r
  -- lower numbers come first in dictionary order
  pub ordered : (q r : ℕ) → q < r → r < tree_count net → Less (dictionary orderℕ) (tree_at net q) (tree_at net r)

-- ---- the number of trees

-- What a reply of this number and these values means for a yard: the trees are numbered below the one value.
pub record Counts (net : Network) (number : ℕ) (values : List ℤ) : Type 0 where
  pub succeeds : number ≡ 0
  pub count : values ≡ pos (tree_count net) ∷ []
  pub numbered : Numbered net

-- What is promised of the number of trees on survey s that replied with this number and these values: for every accepted survey of at most 12 links.
pub record CountPromised (s : List ℕ) (number : ℕ) (values : List ℤ) : Type 0 where
  pub counts : checked_of s ≡ no_refusal → (network_of s).m ≤ max_enumerated → Counts (network_of s) number values

-- ---- tree r

-- What a reply of this number and these values to number r means for survey s, with these links in the first t bytes of the tree buffer.
pub record HandsOut (s : List ℕ) (r number : ℕ) (values : List ℤ) (links : List ℕ) : Type 0 where
  -- it is a tree or 13
  pub either : (number ≡ 0) ⊎ (number ≡ 13)
  -- a tree exactly for a number below the count,
  pub below : (number ≡ 0) ↔ (r < tree_count (network_of s))
  -- the tree of that number,
  pub tree : number ≡ 0 → Tree (network_of s) links
  pub which : number ≡ 0 → links ≡ tree_at (network_of s) r
  -- with its sum and its ceiling costs, 0 where a ceiling is absent: the reply that the judge gives to it
  pub costs : number ≡ 0 → values ≡ cost_values (costs_of (network_of s) links)
  pub judges : number ≡ 0 → record { number = 0; place = 0; values = values } ≡ judged s links
  pub numbered : Numbered (network_of s)

-- What is promised of a call for tree r on survey s that replied so and left these bytes: for every accepted survey of at most 12 links, every number,
-- and every tree buffer of t bytes or more, whatever it held.
pub record TreePromised (s : List ℕ) (r : ℕ) (tree : List ℕ) (number : ℕ) (values : List ℤ) (left : List ℕ) : Type 0 where
  pub hands : checked_of s ≡ no_refusal → (network_of s).m ≤ max_enumerated → tree_size (network_of s) ≤ length tree
      → HandsOut s r number values (take (tree_size (network_of s)) left)
