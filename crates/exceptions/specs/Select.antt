-- Links to select from: with a pattern each, and in rising order of cost.
use Rattle.std.specs.Prelude.{ℕ, ◌≤◌, ◌<◌, ◌≡◌, length, get_or}
use mathlib.Core.List.{List, Sublistᴰ}
use Rattle.std.proofs.Common.{arith}
use Rattle.order.specs.Lists.{◌∈◌, numbers_from}
use Rattle.order.proofs.Lists.{get_or-mem, sublist-few, sublist-⊆}
use Rattle.order.specs.Order.{orderℕ, pair-first, pairs}
use Rattle.order.proofs.Perm.{pairwise-imp, pairwise-sublist}
use Rattle.order.specs.Sorted.{Apart, Sorted}
use Rattle.order.proofs.Sorted.{sort_sorted}
use Rattle.order.specs.Least.{ranked}
use Rattle.network.specs.Capacities.{links_held}
use Rattle.network.specs.Yard.{sum_at}
use Rattle.kruskal_order.specs.ByCost.{Cheap, link_order, order-apart, order_below, order-length}
use Rattle.kruskal_order.specs.Usable.{usable-sublist, usable_order}
use Rattle.kruskal.specs.Tree.{Walkable}

-- links that have a pattern each, with an array that has room for them
pub record Selectable (patterns order out : List ℕ) : Type 0 where
  pub known : (e : ℕ) → e ∈ order → e < length patterns
  pub room : length order ≤ length out

-- the link at a place
pub known_at : {patterns order out : List ℕ} → Selectable patterns order out → (k : ℕ) → k < length order → get_or order k 0 < length patterns
known_at {order = order} s k h = s.known (get_or order k 0) (get_or-mem order k 0 h)

-- ---- links in rising order of cost, and those selected of them

-- links that can be walked, each once, in rising order of cost
pub record InOrder (sums l : List ℕ) : Type 0 where
  pub walkable : Walkable sums l
  pub sorted : Sorted orderℕ (sum_at sums) l
  pub apart : Apart (λ x. x) l

module _ (sums : List ℕ) where
  -- all links by cost
  all-in-order : length sums ≤ links_held → Cheap sums → InOrder sums (link_order sums)
  unfolding link_order
  all-in-order h cheap =
      let key = ranked (sum_at sums) (λ c. c) in
      record {
        walkable = record {
          few = omega (arith, order-length sums);
          usable = λ e k. let b = order_below sums e k in record { below = b; cheap = cheap e b };
        };
        sorted = pairwise-imp (λ x y k. pair-first orderℕ orderℕ (key x) (key y) k) (link_order sums)
            (sort_sorted (pairs orderℕ orderℕ) key (numbers_from (length sums) 0));
        apart = order-apart sums;
      }

  -- so is each sublist
  pub sublist-in-order : {xs ys : List ℕ} → Sublistᴰ xs ys → InOrder sums ys → InOrder sums xs
  sublist-in-order s v =
      let few = v.walkable.few in
      record {
        walkable = record { few = omega (arith, sublist-few s); usable = λ e k. v.walkable.usable e (sublist-⊆ s e k) };
        sorted = pairwise-sublist _ s v.sorted;
        apart = pairwise-sublist _ s v.apart;
      }

  -- the usable links by cost
  pub order-in-order : (rest : ℕ) (ends : List ℕ) {l : List ℕ} → length sums ≤ links_held → Cheap sums → l ≡ usable_order rest ends sums → InOrder sums l
  order-in-order rest ends h cheap e = rw e (sublist-in-order (usable-sublist rest ends sums) (all-in-order h cheap))
