-- What callers rely on in an index and in a lookup. The contract of building has `IndexPromised`, that of a lookup `LookupPromised`.
use Rattle.std.specs.Prelude.{Ok, true, false, List, ◌⊎◌, ◌≡◌, ℕ, ◌≤◌, ◌<◌, eqb, ℤ, length}
use Rattle.std.specs.Int.Signed.{le_z}
use Rattle.order.specs.Lists.{◌∈◌, count}
use Rattle.order.specs.Order.{dictionary, orderℤ}
use Rattle.order.specs.Sorted.{Rising}
use Rattle.network.specs.Calls.{Reply}
use Rattle.network.specs.Fetching.{head_count}
use Rattle.network.specs.Indexing.{declined, entries_from, index_after, index_key, index_need, meets, plan_sum, says_found}
use Rattle.network.specs.Promise.{Archived}
use Rattle.network.specs.declared.refusals.Rule.TheVariants.{NoSuchPlan}
use Rattle.network.specs.declared.refusals.Status.{Status}

-- numbers that are the plan numbers of a list, each once, in the rising order of what plans stand by
pub record Ordered (list numbers : List ℕ) : Type 0 where
  pub once : (r : ℕ) → r < head_count list → count (eqb r) numbers ≡ 1
  pub only : (r : ℕ) → r ∈ numbers → r < head_count list
  pub rising : Rising (dictionary orderℤ) (index_key list) numbers

-- what building has done that replied r and left these bytes in a buffer
pub record IndexPromised (list buffer : List ℕ) (r : Status) (left : List ℕ) : Type 0 where
  -- where it succeeds, the first numbers of two bytes are the plan numbers in order
  pub ordered : r ≡ record { number = 0; place = 0 } → Ordered list (entries_from (head_count list) 0 left)
  -- on a list that a list call made it succeeds in every buffer of 2 bytes a plan or more
  pub succeeds : (s : List ℕ) → Archived s list → index_need list ≤ length buffer → r ≡ record { number = 0; place = 0 }

-- plan r meets the value, no plan that meets it is cheaper, and none that meets it at the same sum stands earlier in the list
pub record IsCheapest (list : List ℕ) (y : ℤ) (r : ℕ) : Type 0 where
  pub below : r < head_count list
  pub meeting : meets list y r ≡ true
  pub lowest : (x : ℕ) → x < head_count list → meets list y x ≡ true → le_z (plan_sum list r) (plan_sum list x) ≡ true
  pub earliest : (x : ℕ) → x < r → meets list y x ≡ true → le_z (plan_sum list x) (plan_sum list r) ≡ false

-- no plan meets the value
pub record NoneMeets (list : List ℕ) (y : ℤ) : Type 0 where
  pub unmet : (r : ℕ) → r < head_count list → meets list y r ≡ false

-- what a lookup by y has replied
pub record LookupPromised (list index : List ℕ) (y : ℤ) (reply : Reply) : Type 0 where
  -- a plan is the cheapest that meets the value
  pub cheapest : (r : ℕ) → reply ≡ says_found (Ok r) → IsCheapest list y r
  -- 13 says that none does
  pub none : reply ≡ says_found (declined NoSuchPlan) → NoneMeets list y
  -- either comes only with the list's own index: building into its buffer leaves it as it is
  pub own : (reply.number ≡ 0) ⊎ (reply.number ≡ 13) → index_after list index ≡ index
  -- on a list that a list call made, with what building left in a buffer of 2 bytes a plan or more, the reply is a plan or 13
  pub answers : (s buffer : List ℕ) → Archived s list → index_need list ≤ length buffer → index ≡ index_after list buffer
      → ((r : ℕ) × (reply ≡ says_found (Ok r))) ⊎ (reply ≡ says_found (declined NoSuchPlan))
