-- What the definitions of Yard.antt mean: the test of a tree says that a list of usable links connects all working stations and has no ring, and
-- dominance and the best tree are what document 01 calls so.
use Rattle.std.specs.Prelude.{Bool, true, false, ◌&&◌, not, List, map, ◌↔◌, ◌≡◌, refl, ℕ, ℤ, pos, get_or, length}
use Rattle.std.proofs.Math.Option.{none, some}
use Rattle.std.proofs.Common.{ap, arith}
use Rattle.std.specs.Int.Signed.{le_z}
use Rattle.std.proofs.lemmas.Bool.{not-true}
use Rattle.order.specs.Test.{clash, left}
use Rattle.order.proofs.Test.{fails, right, both}
use Rattle.order.specs.Lists.{◌∈◌, first}
use Rattle.order.specs.Order.{dictionary, orderℕ, orderℤ}
use Rattle.order.proofs.Order.{equal→≡, le_refl, ≡→equal}
use Rattle.order.specs.Sorted.{Rising}
use Rattle.order.proofs.Sorted.{first-lowest}
use Rattle.order.proofs.Least.{least_first}
use Rattle.spanning.proofs.Joined.{spanning-iff}
use Rattle.spanning.proofs.Listing.{is_listed-iff, listing-iff, listing-length, listing-sorted}
use Rattle.frontier.specs.Dominance.{le_all, same}
use Rattle.frontier.proofs.Best.{best_none, best-some}
use Rattle.planning.specs.Graph.{Sound, search_tree}
use Rattle.planning.proofs.Search.{search-best}
use Rattle.network.specs.Yard.{Tree, best, dominates, ends, fits, graph, is_tree, ranks, stations, tree_size, tree_sum, trees, usable, yard}
use Rattle.network.proofs.Resting.{mem-working, working-mem}
use Rattle.network.proofs.CheckedLaws.{refused-once}
use Rattle.network.specs.Calls.{Reply, cost_values, says}
use Rattle.network.specs.Checked.{Answer}
use Rattle.network.specs.declared.Costs.{Costs}
use Rattle.std.specs.Prelude.{Ok, Err, suc, drop}
use Rattle.network.specs.Network.{Network}
use Rattle.network.specs.Meaning.{Best}

-- v dominates w: no entry of v is above that of w, and v differs from w
pub dominates-iff : (v w : List ℤ) → (dominates v w ≡ true) ↔ ((le_all orderℤ v w ≡ true) × ¬ (v ≡ w))
dominates-iff v w = (
  λ h. (
    left (le_all orderℤ v w) (not (same orderℤ v w)) h,
    λ e. clash (≡→equal (dictionary orderℤ) v w e) (not-true (same orderℤ v w) (right (le_all orderℤ v w) (not (same orderℤ v w)) h)),
  ),
  λ h. both h.0 (rw (fails (same orderℤ v w) (λ e. h.1 (equal→≡ (dictionary orderℤ) v w e)))),
)

module _ (net : Network) (sound : Sound (graph net)) where
  -- `trees` has the trees, all of them,
  pub trees-iff : (ts : List ℕ) → (ts ∈ trees net) ↔ Tree net ts
  trees-iff ts = (
    λ m.
        let r = (listing-iff (ends net) (stations net) net.m (usable net) sound.some-station sound.apart sound.within ts).0 m in
        let j = (spanning-iff (stations net) (map (ends net) ts)).0 r.2 in
        record {
          rising = r.0;
          used = r.1;
          connects = λ a b g h u v. j.0 a b (mem-working net.n net.rest a g u) (mem-working net.n net.rest b h v);
          no-ring = j.1;
        },
    λ t.
        (listing-iff (ends net) (stations net) net.m (usable net) sound.some-station sound.apart sound.within ts).1 (
          t.rising,
          t.used,
          (spanning-iff (stations net) (map (ends net) ts)).1 (
            λ a b g h.
                let i = working-mem net.n net.rest g in
                let j = working-mem net.n net.rest h in
                t.connects a b i.0 j.0 i.1 j.1,
            t.no-ring,
          ),
        ),
  )

  -- each with t links,
  pub tree-size : (ts : List ℕ) → Tree net ts → length ts ≡ tree_size net
  tree-size ts t = listing-length (ends net) (stations net) net.m (usable net) ts ((trees-iff ts).1 t)

  -- once, in dictionary order
  pub trees-rising : Rising (dictionary orderℕ) (λ ts. ts) (trees net)
  trees-rising = listing-sorted (ends net) (stations net) net.m (usable net)

  -- the test of a drawn tree
  pub is_tree-iff : (ts : List ℕ) → (is_tree net ts ≡ true) ↔ Tree net ts
  is_tree-iff ts = (
    λ e. (trees-iff ts).0 ((is_listed-iff (ends net) (stations net) net.m (usable net) ts).0 e),
    λ t. (is_listed-iff (ends net) (stations net) net.m (usable net) ts).1 ((trees-iff ts).1 t),
  )

  -- the definition finds it,
  pub best-found : (bs : List ℤ) (ts : List ℕ) → best net bs ≡ some ts → Best net bs ts
  best-found bs ts e =
      let b = best-some (yard net) bs ts e in
      record {
        tree = (trees-iff ts).0 b.member;
        fitting = b.passes;
        least = λ us t f. b.lowest us ((trees-iff us).1 t) f;
        foremost = λ us t f l.
            first-lowest (dictionary orderℕ) (λ xs. xs) near ts (trees net) trees-rising leftmost us ((trees-iff us).1 t) (both f l);
      }
    where
      -- a tree that fits at no higher sum
      near : List ℕ → Bool
      near us = fits net bs us && le_z (tree_sum net us) (tree_sum net ts)

      leftmost : first near (trees net) ≡ some ts
      leftmost =
          least_first orderℤ (tree_sum net) (fits net bs) near (trees net) ts e
          (both (best-some (yard net) bs ts e).passes (le_refl orderℤ (tree_sum net ts)))
          (λ us k. (left (fits net bs us) (le_z (tree_sum net us) (tree_sum net ts)) k, right (fits net bs us) (le_z (tree_sum net us) (tree_sum net ts)) k))

  -- and finds none only if no tree fits
  pub best-missing : (bs : List ℤ) → best net bs ≡ none → (ts : List ℕ) → Tree net ts → fits net bs ts ≡ false
  best-missing bs e ts t = best_none (yard net) bs e ((trees-iff ts).1 t)

  -- the search over sets of exceptional links, each completed by Kruskal's method, finds the best tree
  pub search-finds : (bs : List ℤ) → length bs ≡ length (ranks net) → search_tree (graph net) bs ≡ best net bs
  search-finds bs l = search-best (graph net) sound bs l

-- no cost is lost in an answer
pub says-costs : (v : Costs) → (says (Ok v)).values ≡ cost_values v
unfolding says
says-costs v = refl

-- `says` is one-to-one: no two answers say the same
pub says-once : (a b : Answer) → says a ≡ says b → a ≡ b
unfolding says
says-once (Ok v) (Ok w) e =
    let sum = ap (λ (r : Reply). get_or r.values 0 (pos 0)) e in
    let y = ap (λ (r : Reply). drop 1 r.values) e in
    λ i. Ok (record { sum = sum i; y = y i })
says-once (Err r) (Err q) e =
    refused-once r q (ap (λ (a : Reply). a.number) e) (ap (λ (a : Reply). a.place) e)
says-once (Ok v) (Err r) e = let z : ◌≡◌ {A = ℕ} (suc (length v.y)) 0 = ap (λ (a : Reply). length a.values) e in absurd (omega arith)
says-once (Err r) (Ok v) e = let z : ◌≡◌ {A = ℕ} 0 (suc (length v.y)) = ap (λ (a : Reply). length a.values) e in absurd (omega arith)
