-- What the cheapest plan is among the plans of the list, and what it means that there is none.
use Rattle.std.specs.Prelude.{Bool, true, ◌&&◌, List, ◌≡◌, ℕ, ◌<◌, leb, ℤ}
use Rattle.std.proofs.Math.Option.{none, some}
use Rattle.std.proofs.Common.{arith}
use borrow.Author.Tests.{leb-true}
use Rattle.std.specs.Int.Signed.{le_z}
use Rattle.order.specs.Test.{left}
use Rattle.order.proofs.Test.{both, fails, right}
use Rattle.order.specs.Lists.{◌∈◌, first}
use Rattle.order.specs.Order.{orderℕ, orderℤ}
use Rattle.order.proofs.Order.{le_refl}
use Rattle.order.proofs.Sorted.{first-lowest, mem-numbers, numbers-mem, numbers-rising}
use Rattle.order.specs.Least.{IsLeast}
use Rattle.order.proofs.Least.{least_first, least-none, least-some}
use Rattle.network.specs.Fetching.{head_count}
use Rattle.network.specs.Indexing.{cheapest, meets, plan_numbers, plan_sum}
use Rattle.network.specs.IndexPromise.{IsCheapest, NoneMeets}

module _ (list : List ℕ) (y : ℤ) where
  -- a number below the count is one of the plans'
  numbered : (x : ℕ) → x < head_count list → x ∈ plan_numbers list
  numbered x l = mem-numbers (head_count list) 0 x (omega arith) (omega arith)

  -- where a plan is found, it is the cheapest
  pub cheapest-some : (r : ℕ) → cheapest list y ≡ some r → IsCheapest list y r
  unfolding cheapest
  cheapest-some r e =
      record {
        below = inside;
        meeting = least.passes;
        lowest = λ x l m. least.lowest x (numbered x l) m;
        earliest = λ x l m. fails (le_z (plan_sum list x) (plan_sum list r)) (λ k. omega (arith, leb-true r x (later x (omega (arith, inside)) (both m k))));
      }
    where
      least : IsLeast orderℤ (plan_sum list) (meets list y) (plan_numbers list) r
      least = least-some orderℤ (plan_sum list) (meets list y) (plan_numbers list) r e

      inside : r < head_count list
      inside = omega (arith, numbers-mem (head_count list) 0 r least.member)

      -- plan x meets y and costs no more than plan r
      as_good : ℕ → Bool
      as_good x = meets list y x && le_z (plan_sum list x) (plan_sum list r)

      -- plan r is the first such plan
      first-such : first as_good (plan_numbers list) ≡ some r
      first-such =
          least_first orderℤ (plan_sum list) (meets list y) as_good (plan_numbers list) r e (both least.passes (le_refl orderℤ (plan_sum list r)))
          (λ x k. (left (meets list y x) (le_z (plan_sum list x) (plan_sum list r)) k, right (meets list y x) (le_z (plan_sum list x) (plan_sum list r)) k))

      -- so that others come later
      later : (x : ℕ) → x < head_count list → as_good x ≡ true → leb r x ≡ true
      later x l k = first-lowest orderℕ (λ x. x) as_good r (plan_numbers list) (numbers-rising (head_count list) 0) first-such x (numbered x l) k

  -- where none is found, none meets y
  pub cheapest-none : cheapest list y ≡ none → NoneMeets list y
  unfolding cheapest
  cheapest-none e = record { unmet = λ r l. least-none orderℤ (plan_sum list) (meets list y) (plan_numbers list) e (numbered r l) }
