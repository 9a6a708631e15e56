-- What holds of the network of an accepted survey, said with no byte in it, and so of the graph that the theory speaks of; and that the arrays of the
-- code hold it.
use Rattle.std.specs.Prelude.{ℕ, ◌+◌, ◌*◌, ◌≤◌, ◌<◌, ◌≡◌, get_or, length}
use Rattle.order.specs.Lists.{◌∈◌}
use Rattle.kmax.specs.Ceilings.{slack_of}
use Rattle.network.specs.Limits.{max_ceilings, max_links, max_plans, max_stations}
use Rattle.network.specs.Capacities.{ceilings_held, exceptions_held, links_held, plans_held, stations_held, sum_held}
use Rattle.network.specs.Network.{Network}
use Rattle.network.specs.Yard.{ranks, stations, tree_size}
use Rattle.network.specs.Walk.{position_count}

-- ---- limits of the walk and of the list, for any number of ceilings

-- the limits of what a survey may have, said of its network
pub record WithinLimits (net : Network) : Type 0 where
  pub stations : net.n ≤ max_stations
  pub links : net.m ≤ max_links
  pub ceilings : length (ranks net) ≤ max_ceilings
  pub positions : position_count net ≤ max_plans

-- ---- the network

-- A network that the code can plan: columns of just its links and ceilings, links between its stations, ranks of its trees, and all of it held by the
-- arrays.
pub record NetworkFine (net : Network) : Type 0 where
  pub some-station : 1 ≤ length (stations net)
  -- as many ranks, ends, sum costs and ceiling costs as there should be
  pub rank-count : length net.k ≡ net.p
  pub end-count : length net.ends ≡ 2 * net.m
  pub sum-count : length net.sums ≡ net.m
  pub cost-count : length net.costs ≡ net.p * net.m
  -- each rank is at least 1 and at most t
  pub ranked : (k : ℕ) → k ∈ net.k → (0 < k) × (k ≤ tree_size net)
  -- link i
  pub first-end : (i : ℕ) → i < net.m → get_or net.ends (2 * i) 0 < net.n
  pub second-end : (i : ℕ) → i < net.m → get_or net.ends (2 * i + 1) 0 < net.n
  -- it is held
  pub few-stations : net.n ≤ stations_held
  pub few-links : net.m ≤ links_held
  pub few-ceilings : net.p ≤ ceilings_held
  pub few-exceptions : slack_of net.k ≤ exceptions_held
  pub few-positions : position_count net ≤ plans_held
  pub cheap : (i : ℕ) → i < net.m → get_or net.sums i 0 ≤ sum_held
