-- A survey is decoded into a shape and into columns that are lent: its own columns stand at their fronts.
use Rattle.std.specs.Prelude.{ℕ, ◌-◌, ◌*◌, ◌≤◌, List, ◌≡◌, refl, ℤ, drop, length, take}
use Rattle.std.proofs.Common.{sym, ◌∙◌, take-take}
use Rattle.network.specs.Accepted.{Priced}
use Rattle.network.specs.Capacities.{ceilings_held}
use Rattle.network.specs.Network.{Network}
use Rattle.network.specs.Shaped.{net_of}
use Rattle.network.specs.Survey.{ceilings_in, costs_in, ends_in, network_with, ranks_at, ranks_in, rest_in, stations_in, sums_in, working_in}
use Rattle.network.specs.Yard.{tree_size}
use Rattle.network.specs.declared.Layout.{Layout}
use Rattle.network.specs.declared.Shape.{Shape}
use Rattle.survey_decoding.specs.Columns.{HasCosts}

-- what a survey of m whole link records must have besides for a network, and columns with room for its own
pub record Decodable (s : List ℕ) (l : Layout) (m : ℕ) (ends sums : List ℕ) (costs : List ℤ) : Type 0 where
  pub priced : Priced s l m
  pub some-station : 1 ≤ length (working_in l s)
  pub held : HasCosts l (ceilings_in s)
  pub ends-room : 2 * m ≤ length ends
  pub sums-room : m ≤ length sums
  pub costs-room : ceilings_in s * m ≤ length costs

-- the network of a shape whose columns stand at the fronts of longer ones
abbrev pub net_at_fronts : Shape → List ℕ → List ℕ → List ℤ → Network
net_at_fronts shape ends sums costs = net_of shape (take (2 * shape.m) ends) (take shape.m sums) (take (shape.p * shape.m) costs)

-- a shape and lent columns that say a network
pub record Decoded (net : Network) (shape : Shape) (ends sums : List ℕ) (costs : List ℤ) : Type 0 where
  pub network : net_at_fronts shape ends sums costs ≡ net
  -- t is the number of links of a tree
  pub tree : shape.t ≡ tree_size net
  -- the ranks have room
  pub ranks : length shape.k ≡ ceilings_held

-- the shape of a survey with m links, whose ranks are handed on as ks
abbrev pub shape_in : Layout → List ℕ → ℕ → List ℕ → Shape
shape_in l s m ks = record { n = stations_in s; p = ceilings_in s; k = ks; rest = rest_in l s; m = m; t = length (working_in l s) - 1 }

-- with the columns of a survey at the fronts, and its ranks at the front of ks, its shape and the lent columns say its network
pub decoded : (s : List ℕ) (l : Layout) (m : ℕ) {ks ends sums : List ℕ} {costs : List ℤ} → ceilings_in s ≤ l.slots → length ks ≡ ceilings_held
    → take (ceilings_in s) ks ≡ take (ceilings_in s) (drop ranks_at s) → take (2 * m) ends ≡ ends_in l s m → take m sums ≡ sums_in l s m
    → take (ceilings_in s * m) costs ≡ costs_in l s m (ceilings_in s) → Decoded (network_with l s m) (shape_in l s m ks) ends sums costs
unfolding network_with ranks_in
decoded s l m {ks} few room ranks e f g =
    let k = ranks ∙ sym (take-take (ceilings_in s) l.slots (drop ranks_at s) few) in
    record {
      network = λ i. record { n = stations_in s; p = ceilings_in s; k = k i; rest = rest_in l s; m = m; ends = e i; sums = f i; costs = g i };
      tree = refl;
      ranks = room;
    }
