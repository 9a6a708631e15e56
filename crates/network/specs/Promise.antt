-- What the user relies on: that the list of an accepted survey is complete (demand 3), and that a plan fetched from it is the plan listed there.
-- The list call's contract has `Promised`, those of fetching `NumberKept` and `LinksKept`.
use Rattle.std.specs.Prelude.{cond, true, false, List, [], ◌++◌, ◌↔◌, ◌≡◌, ℕ, ◌≤◌, ◌<◌, ltb, ℤ, get_or, length}
use Rattle.order.specs.Lists.{◌∈◌}
use Rattle.order.specs.Order.{dictionary, dictionary_le, orderℕ, orderℤ}
use Rattle.order.specs.Sorted.{Rising}
use Rattle.network.specs.Yard.{Tree, dominates, vector}
use Rattle.network.specs.Walk.{plans, position_count, solved_count, walked}
use Rattle.network.specs.Survey.{network_of}
use Rattle.network.specs.PlanList.{buffer_need, costs_at, costs_of, filled, list_bytes}
use Rattle.network.specs.Fetching.{fetch_links, fetch_number, head_count, head_slots, plan_start}
use Rattle.network.specs.Refusals.{checked_of}
use Rattle.network.specs.Checked.{no_refusal}
use Rattle.network.specs.Network.{Network}
use Rattle.network.specs.declared.refusals.Status.{Status}

-- some tree of the yard attains v
abbrev pub Attained : Network → List ℤ → Type 0
Attained net v = (ts : List ℕ) × Tree net ts × (vector net ts ≡ v)

-- no vector that a tree of the yard attains, listed or not, dominates v
abbrev pub Undominated : Network → List ℤ → Type 0
Undominated net v = (ts : List ℕ) → Tree net ts → dominates (vector net ts) v ≡ false

-- v stands in the list
abbrev pub Stands : Network → List ℤ → Type 0
Stands net v = (ts : List ℕ) × (ts ∈ plans net) × (vector net ts ≡ v)

-- what the list of a yard is promised to be
pub record Complete (net : Network) : Type 0 where
  -- a cost vector stands in the list exactly when some tree attains it and no tree's vector dominates it
  pub exactly : (v : List ℤ) → Stands net v ↔ (Attained net v × Undominated net v)
  -- the vectors rise strictly, by sum and then by each ceiling cost: each stands once
  pub rising : Rising (dictionary orderℤ) (vector net) (plans net)
  -- nothing but trees stands there
  pub only-trees : (ts : List ℕ) → ts ∈ plans net → Tree net ts
  -- each vector stands with the first of all trees that attain it
  pub firsts : (ts us : List ℕ) → ts ∈ plans net → Tree net us → vector net us ≡ vector net ts → dictionary_le orderℕ ts us ≡ true
  -- the list is empty exactly when the yard has no tree
  pub empty : (plans net ≡ []) ↔ ((ts : List ℕ) → Tree net ts → ⊥)
  -- it is what the walk leaves
  pub by-walk : walked net ≡ plans net
  -- the solved count is at most the product of the numbers of different values
  pub count : solved_count net ≤ position_count net

-- Record k of a list is found, and has the costs of a tree, as `costs_at` reads them, and its links, as fetching hands them out.
pub record Reads (list : List ℕ) (k : ℕ) (net : Network) (ts : List ℕ) : Type 0 where
  pub found : fetch_number list k ≡ 0
  pub costs : costs_at (head_slots list) list (plan_start list k) ≡ costs_of net ts
  pub links : fetch_links list k ≡ ts

-- What a list call on survey s that replied r and left these bytes in a buffer of `size` bytes has delivered.
pub record Delivered (s : List ℕ) (size : ℕ) (r : Status) (left : List ℕ) : Type 0 where
  -- it succeeds
  pub succeeds : r ≡ record { number = 0; place = 0 }
  -- every byte is the one that document 01 gives for the list and its solved count, 0 past the last plan
  pub bytes : left ≡ filled (network_of s) size
  -- the list is what the user relies on
  pub list : Complete (network_of s)
  -- and the bytes say it: the head counts the plans, and record k is that of plan k
  pub counted : head_count left ≡ length (plans (network_of s))
  pub records : (k : ℕ) → k < length (plans (network_of s)) → Reads left k (network_of s) (get_or (plans (network_of s)) k [])

-- DEMAND 3: for every accepted survey, every buffer long enough, whatever it held before, and every allowance that is at least M.
pub record Promised (s : List ℕ) (allowance : ℕ) (buffer : List ℕ) (r : Status) (left : List ℕ) : Type 0 where
  pub delivers : checked_of s ≡ no_refusal → buffer_need (network_of s) ≤ length buffer → position_count (network_of s) ≤ allowance
      → Delivered s (length buffer) r left

-- ---- the archive

-- Bytes that begin with the list of an accepted survey: a list that a list call made, with whatever follows it.
pub record Archived (s list : List ℕ) : Type 0 where
  pub accepted : checked_of s ≡ no_refusal
  pub rest : List ℕ
  pub bytes : list ≡ list_bytes (network_of s) ++ rest

-- what a call that fetched plan r from such bytes has replied: 0 for a plan of the list, and 13 past the last
pub record NumberKept (list : List ℕ) (r number : ℕ) : Type 0 where
  pub found : (s : List ℕ) → Archived s list → number ≡ cond (ltb r (length (plans (network_of s)))) 0 13

-- and the part that it gave: the links of plan r, and none past the last
pub record LinksKept (list : List ℕ) (r : ℕ) (part : List ℕ) : Type 0 where
  pub links : (s : List ℕ) → Archived s list → part ≡ get_or (plans (network_of s)) r []
