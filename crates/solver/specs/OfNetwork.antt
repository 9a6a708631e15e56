-- The best tree of a network, put together from what the search is given.
use Rattle.std.specs.Prelude.{Option, ℕ, zero, suc, ◌<◌, Bool, List, ◌∷◌, ◌≡◌, refl, ℤ, length, replicate, take}
use Rattle.std.proofs.Common.{ap, arith}
use Rattle.order.specs.Lists.{◌∈◌}
use Rattle.network.proofs.Resting.{working-apart, working-few, working-mem}
use Rattle.network.specs.Yard.{ranks, stations, tree_size}
use Rattle.network.specs.Network.{Network}
use Rattle.network.specs.NetworkFine.{NetworkFine}
use Rattle.network.proofs.NetworkFine.{graph-sound}
use Rattle.kruskal_order.specs.Usable.{usable-below, usable-joins, usable_order}
use Rattle.kruskal.specs.Base.{Joinable}
use Rattle.exceptions.specs.OfNetwork.{net_patterns}
use Rattle.search_trials.specs.Search.{Best, best_of}
use Rattle.solver.specs.Assembled.{Reports}

-- the usable links of a network by cost
abbrev pub order_of : Network → List ℕ
order_of net = usable_order net.rest net.ends net.sums

-- the best tree of a network under the bounds bs, as the search finds it
unfoldable pub net_best : Network → List ℤ → Best
net_best net bs = best_of net.ends net.sums (tree_size net) (ranks net) (net_patterns net bs) (order_of net)

-- what reports the best tree of the search, by the figures that the code has, reports the best tree of the network
pub assembled-network : (net : Network) (bs : List ℤ) (t : ℕ) (patterns order : List ℕ) (r : Option ℕ) (taken : List Bool) → t ≡ tree_size net
    → patterns ≡ net_patterns net bs → order ≡ order_of net → Reports (best_of net.ends net.sums t (ranks net) patterns order) r taken
    → Reports (net_best net bs) r taken
unfolding net_best
assembled-network net bs t patterns order r taken g e o q = rw (← g, ← e, ← o) q

-- the links in order join the working stations of the network
pub order-joinable : (net : Network) → NetworkFine net → (t : ℕ) (order : List ℕ) → t ≡ tree_size net → order ≡ order_of net
    → Joinable net.ends order t
order-joinable net fine t order g o =
    let some = fine.some-station in
    let few = fine.few-stations in
    record {
      stations = stations net;
      size = omega arith;
      different = working-apart net.n net.rest;
      known = λ v m. omega (arith, (working-mem net.n net.rest m).0);
      within =
          λ e m.
          let m' : e ∈ order_of net = rw (← o) m in
          let below : e < net.m = omega (arith, usable-below net.rest net.ends net.sums e m', fine.sum-count) in
          (graph-sound net fine).within e below (usable-joins net.rest net.ends net.sums e m');
      held = omega (arith, working-few net.n net.rest);
    }

-- a front of zeros is zeros
pub zeros-front : (n k : ℕ) → take k (replicate {A = ℕ} n 0) ≡ replicate {A = ℕ} (length (take k (replicate {A = ℕ} n 0))) 0
zeros-front zero zero = refl
zeros-front zero (suc k) = refl
zeros-front (suc n) zero = refl
zeros-front (suc n) (suc k) = ap (λ (l : List ℕ). 0 ∷ l) (zeros-front n k)
