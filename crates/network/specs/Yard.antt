-- Document 01, "The yard and its plans", with stations at rest: stations, links, trees, cost vectors, the best tree under ceilings. `Tree` says what a
-- tree is, and the test beside it computes; Meaning.antt says that they agree, and what dominance and the best tree are.
use Rattle.std.specs.Prelude.{Bool, true, ◌&&◌, List, ◌∷◌, map, ◌≡◌, ℕ, ◌+◌, ◌*◌, ◌-◌, ◌/◌, ◌%◌, ◌^◌, ◌<◌, eqb, ℤ, pos, drop, get_or, length, take}
use Rattle.std.proofs.Math.Option.{Option}
use Rattle.order.specs.Lists.{◌∈◌, filter, numbers_from}
use Rattle.order.specs.Order.{orderℤ}
use Rattle.order.specs.Lowered.{lowered, sumℤ}
use Rattle.spanning.specs.Labelling.{Edge}
use Rattle.spanning.specs.Joined.{Joined, NoRing}
use Rattle.spanning.specs.Rising.{RisingIn}
use Rattle.spanning.specs.Listing.{is_listed, spanning_trees}
use Rattle.frontier.specs.Dominance as test
use Rattle.frontier.specs.Frontier as walk
use Rattle.planning.specs.Graph.{Graph, costs_from, problem}
use Rattle.network.specs.Capacities.{raise}
use Rattle.network.specs.Network.{Network}

-- ---- stations and links

-- station j works: its bit among those of the stations at rest is 0
unfoldable pub works : ℕ → ℕ → Bool
works rest j = eqb (rest / 2 ^ j % 2) 0

-- the working stations of n, by the bits of those at rest
unfoldable pub working : ℕ → ℕ → List ℕ
working n rest = filter (works rest) (numbers_from n 0)

-- the two stations that link c joins, in the ends of all links
abbrev pub ends_at : List ℕ → ℕ → Edge
ends_at ends c = record { a = get_or ends (2 * c) 0; b = get_or ends (2 * c + 1) 0 }

-- a link is usable: neither of the two stations that it joins is at rest
unfoldable pub joins_working : ℕ → Edge → Bool
joins_working rest e = works rest e.a && works rest e.b

-- link c is usable, by the stations at rest and the ends of all links
abbrev pub usable_at : ℕ → List ℕ → ℕ → Bool
usable_at rest ends c = joins_working rest (ends_at ends c)

-- the sum cost of link c raised by 1,000,000, in the raised sum costs of all links
abbrev pub sum_at : List ℕ → ℕ → ℕ
sum_at sums c = get_or sums c 0

-- the costs of all m links by ceiling i, counted from 0: a part of their ceiling costs
abbrev pub ceiling_part : ℕ → List ℤ → ℕ → List ℤ
ceiling_part m costs i = take m (drop (i * m) costs)

-- c1, c2, ..: the cost of link c by a ceiling, in the costs of all links by that ceiling
abbrev pub cost_at : List ℤ → ℕ → ℤ
cost_at column c = get_or column c (pos 0)

-- the working stations of a yard
abbrev pub stations : Network → List ℕ
stations net = working net.n net.rest

-- the two stations that link c of a yard joins
abbrev pub ends : Network → ℕ → Edge
ends net = ends_at net.ends

-- link c of a yard is usable
abbrev pub usable : Network → ℕ → Bool
usable net = usable_at net.rest net.ends

-- s, the sum cost of link c
abbrev pub sum_cost : Network → ℕ → ℤ
sum_cost net = lowered raise (sum_at net.sums)

-- c1, c2, ..: the cost of link c by ceiling i
abbrev pub ceiling_cost : Network → ℕ → ℕ → ℤ
ceiling_cost net i = cost_at (ceiling_part net.m net.costs i)

-- k1, k2, ..: the ranks of the ceilings
abbrev pub ranks : Network → List ℕ
ranks net = net.k

-- the yard as a graph with costs, of which the theory speaks
abbrev pub graph : Network → Graph
graph net =
    record {
      stations = stations net;
      m = net.m;
      usable = usable net;
      ends = ends net;
      s = sum_cost net;
      weight = sum_at net.sums;
      cost = ceiling_cost net;
      ks = ranks net;
    }

-- ---- trees

-- t: the links of a tree, one fewer than there are working stations
abbrev pub tree_size : Network → ℕ
tree_size net = length (stations net) - 1

-- A tree, written as its link numbers, rising: a set of usable links that connects all working stations and has no ring.
pub record Tree (net : Network) (ts : List ℕ) : Type 0 where
  pub rising : RisingIn 0 net.m ts
  pub used : (c : ℕ) → c ∈ ts → usable net c ≡ true
  pub connects : (i j : ℕ) → i < net.n → j < net.n → works net.rest i ≡ true → works net.rest j ≡ true → Joined (map (ends net) ts) i j
  pub no-ring : NoRing (map (ends net) ts)

-- the same as a test: t usable links of the survey, rising, and a tree
abbrev pub is_tree : Network → List ℕ → Bool
is_tree net ts = is_listed (ends net) (stations net) net.m (usable net) ts

-- All trees, in dictionary order: of several trees, the first is the one that stands first here.
abbrev pub trees : Network → List (List ℕ)
trees net = spanning_trees (ends net) (stations net) net.m (usable net)

-- ---- costs

-- a tree's first cost: the sum of its s
abbrev pub tree_sum : Network → List ℕ → ℤ
tree_sum net ts = sumℤ (sum_cost net) ts

-- a tree's present ceiling costs: number i is the k_i-th largest of that cost over its links, equal values counted separately (`kmax`)
abbrev pub ceiling_costs : Network → List ℕ → List ℤ
ceiling_costs net ts = costs_from (graph net) 0 (ranks net) ts

-- the cost vector: the sum and then the present ceiling costs
abbrev pub vector : Network → List ℕ → List ℤ
vector net ts = tree_sum net ts ∷ ceiling_costs net ts

-- v dominates w: no entry of v is above that of w, and v differs from w
abbrev pub dominates : List ℤ → List ℤ → Bool
dominates v w = test.dominates orderℤ v w

-- ---- under ceilings

-- the trees with their costs, as a problem of the threshold walk
abbrev pub yard : Network → walk.Problem ℤ (List ℕ)
yard net = problem (graph net)

-- the numbers given for the present ceilings; those for absent ones are ignored
abbrev pub bounds : Network → List ℤ → List ℤ
bounds net given = take net.p given

-- a tree fits: each of its ceiling costs is at most the given number
abbrev pub fits : Network → List ℤ → List ℕ → Bool
fits net bs ts = test.le_all orderℤ (ceiling_costs net ts) bs

-- the best tree: of those that fit, the first of the least sum
abbrev pub best : Network → List ℤ → Option (List ℕ)
best net bs = walk.best (yard net) bs
