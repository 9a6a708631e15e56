-- The usable links by cost, and by number where costs are equal.
use Rattle.std.specs.Prelude.{ℕ, ◌≤◌, ◌<◌, true, ◌≡◌, length}
use mathlib.Core.List.{List, Sublistᴰ}
use Rattle.std.proofs.Common.{sym, ap, arith}
use Rattle.order.specs.Lists.{◌∈◌, filter}
use Rattle.order.proofs.Lists.{filter-all, filter-among, filter-mem, sublist-⊆}
use Rattle.order.proofs.Perm.{pairwise-sublist}
use Rattle.order.specs.Sorted.{Apart}
use Rattle.network.specs.Capacities.{links_held}
use Rattle.network.proofs.Resting.{all-usable}
use Rattle.network.specs.Yard.{ends_at, usable_at}
use Rattle.kruskal_order.specs.ByCost.{link_order, order-apart, order_below}

-- numbers of links that are held
abbrev pub Numbers : List ℕ → Type 0
Numbers links = (e : ℕ) → e ∈ links → e < links_held

-- the usable ones of some links, by the stations at rest and the ends of all links
unfoldable pub usable_of : ℕ → List ℕ → List ℕ → List ℕ
usable_of rest ends links = filter (usable_at rest ends) links

-- all usable links, by cost and then number
unfoldable pub usable_order : ℕ → List ℕ → List ℕ → List ℕ
usable_order rest ends sums = usable_of rest ends (link_order sums)

-- ---- what holds of them

module _ (rest : ℕ) (ends sums : List ℕ) where
  -- they stand in their order among all links,
  pub usable-sublist : Sublistᴰ (usable_order rest ends sums) (link_order sums)
  unfolding usable_order usable_of
  usable-sublist = filter-among (usable_at rest ends) (link_order sums)

  -- each once,
  pub usable-apart : Apart (λ x. x) (usable_order rest ends sums)
  usable-apart = pairwise-sublist _ usable-sublist (order-apart sums)

  -- are links,
  pub usable-below : (e : ℕ) → e ∈ usable_order rest ends sums → e < length sums
  usable-below e m = order_below sums e (sublist-⊆ usable-sublist e m)

  -- and usable
  pub usable-joins : (e : ℕ) → e ∈ usable_order rest ends sums → usable_at rest ends e ≡ true
  unfolding usable_order usable_of
  usable-joins e m = (filter-mem (usable_at rest ends) (link_order sums) m).1

-- where no station rests they are all links
pub none_rest : (rest : ℕ) (ends sums : List ℕ) → rest ≡ 0 → link_order sums ≡ usable_order rest ends sums
unfolding usable_order usable_of
none_rest rest ends sums e = sym (filter-all (usable_at rest ends) (link_order sums) (λ c m. rw e (all-usable (ends_at ends c))))

-- those of all links in order
pub of-order : (rest : ℕ) (ends sums : List ℕ) {order : List ℕ} → order ≡ link_order sums → usable_of rest ends order ≡ usable_order rest ends sums
unfolding usable_order
of-order rest ends sums e = ap (usable_of rest ends) e

-- the links in order are numbers of links that are held
pub order-numbers : (sums : List ℕ) {order : List ℕ} → length sums ≤ links_held → order ≡ link_order sums → Numbers order
order-numbers sums few e x m = let k : x ∈ link_order sums = rw (← e) m in omega (arith, order_below sums x k)
