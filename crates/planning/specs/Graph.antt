-- A graph of stations and links with costs, its spanning trees with their sums and k-max costs as a problem of `frontier`, and the search that
-- finds the best tree under ceilings without going through all trees. All of it computes on closed data.
use Rattle.std.specs.Prelude.{Bool, true, cond, ◌&&◌, not, List, [], ◌∷◌, map, ◌≡◌, ℕ, suc, ◌-◌, ◌≤◌, ◌<◌, eqb, leb, ℤ, pos, length}
use Rattle.std.proofs.Math.Option.{Option, none, some}
use Rattle.order.specs.Lists.{◌∈◌, distinct, filter, numbers_from}
use Rattle.order.specs.Lowered.{sumℤ}
use Rattle.order.specs.Perm.{sum}
use Rattle.order.specs.Order.{TotalOrder, dictionary, equal, orderℕ, orderℤ, pairs, reverse}
use Rattle.order.specs.Sorted.{Apart, ascending, sort}
use Rattle.order.specs.Least.{ranked}
use Rattle.spanning.specs.Labelling.{Edge}
use Rattle.spanning.specs.Tree.{Within, identity, is_forest}
use Rattle.spanning.specs.Best.{Usable, by_cost, whole}
use Rattle.spanning.specs.Listing.{spanning_trees}
use Rattle.frontier.specs.Frontier.{Problem}
use Rattle.kmax.specs.KMax.{kmax}
use Rattle.kmax.specs.Ceilings.{Ceiling, ceilings, exceptional, slack_of}
use Rattle.kmax.specs.Subsets.{subsets}
use Rattle.kmax.specs.Search.{search_in}

-- The stations that a tree joins, and m links, numbered from 0, of which those that pass the test `usable` may be used. The link c joins two
-- stations, has the sum cost s c, and costs `cost i c` by ceiling i; ks has the rank k of each ceiling. Kruskal's method goes by `weight`, a natural
-- number for each link.
pub record Graph : Type 0 where
  pub stations : List ℕ
  pub m : ℕ
  pub usable : ℕ → Bool
  pub ends : ℕ → Edge
  pub s : ℕ → ℤ
  pub weight : ℕ → ℕ
  pub cost : ℕ → ℕ → ℤ
  pub ks : List ℕ

-- the number of links of a tree
abbrev pub tree_size : Graph → ℕ
tree_size G = length G.stations - 1

-- what a survey is checked for: there is a station, none stands twice, links that may be used join stations, and no rank exceeds the number of links
-- of a tree; and what weights are for
pub record Sound (G : Graph) : Type 0 where
  pub some-station : 0 < length G.stations
  pub apart : Apart (λ x. x) G.stations
  pub within : (c : ℕ) → c < G.m → G.usable c ≡ true → Within G.stations (G.ends c)
  -- the sums of equally many links compare as their weights do
  pub weighs : (us ts : List ℕ) → length us ≡ length ts → orderℤ.le (sumℤ G.s us) (sumℤ G.s ts) ≡ leb (sum G.weight us) (sum G.weight ts)
  pub ranks : (k : ℕ) → k ∈ G.ks → (0 < k) × (k ≤ tree_size G)

-- trees by sum, then dictionary order
abbrev pub sum_order : TotalOrder (ℤ × List ℕ)
sum_order = pairs orderℤ (dictionary orderℕ)

module _ (G : Graph) where
  open G use {stations, m, usable, ends, s, weight, cost, ks}

  -- the numbers of the links that may be used
  abbrev pub links : List ℕ
  links = filter usable (numbers_from m 0)

  -- c is the number of a link that may be used
  abbrev pub IsLink : ℕ → Type 0
  IsLink c = Usable m usable c

  -- the spanning trees, in dictionary order
  abbrev pub trees : List (List ℕ)
  trees = spanning_trees ends stations m usable

  -- ---- the problem

  -- the sum of a tree
  abbrev pub total : List ℕ → ℤ
  total ts = sumℤ s ts

  -- what `sum_order` compares of a tree: its sum, and its links
  abbrev pub sum_key : List ℕ → ℤ × List ℕ
  sum_key = ranked total (λ ts. ts)

  -- us is no worse than ts: its sum is smaller, or the same and us is not later in dictionary order
  abbrev pub NoWorse : List ℕ → List ℕ → Type 0
  NoWorse us ts = sum_order.le (sum_key us) (sum_key ts) ≡ true

  -- the ceiling costs i, i + 1, .. of a tree, of the ranks js
  abbrev pub costs_from : ℕ → List ℕ → List ℕ → List ℤ
  costs_from i [] ts = []
  costs_from i (k ∷ js) ts = kmax orderℤ k (map (cost i) ts) (pos 0) ∷ costs_from (suc i) js ts

  -- the different values of ceiling i over the links that may be used, in falling order
  abbrev pub values_at : ℕ → List ℤ
  values_at i = sort (reverse orderℤ) (λ v. v) (distinct (equal orderℤ) (map (cost i) links))

  -- the values of the ceilings i, i + 1, .., of the ranks js
  abbrev pub values_from : ℕ → List ℕ → List (List ℤ)
  values_from i [] = []
  values_from i (k ∷ js) = values_at i ∷ values_from (suc i) js

  -- the spanning trees in dictionary order, by sum and ceiling costs
  abbrev pub problem : Problem ℤ (List ℕ)
  problem = record {
    order = orderℤ;
    solutions = trees;
    objective = total;
    ceilings = costs_from 0 ks;
    values = values_from 0 ks;
  }

  -- ---- the search

  -- the ceilings with the bounds bs
  abbrev pub under : List ℤ → List (Ceiling ℤ)
  under bs = ceilings cost 0 ks bs

  -- the exceptional links: those that exceed one of these ceilings
  abbrev pub exceptionals : List ℤ → List ℕ
  exceptionals bs = filter (exceptional orderℤ (under bs)) links

  -- the normal links: those that exceed none
  abbrev pub normals : List ℤ → List ℕ
  normals bs = filter (λ c. not (exceptional orderℤ (under bs) c)) links

  -- X contracted and completed by candidates of cs: each link of X must join two components in turn, and with those added there must be
  -- as many links as a tree has
  unfoldable pub completed : List ℕ → List ℕ → Option (List ℕ)
  completed cs X =
      let ts : List ℕ = whole ends cs X in
      let tree : Option (List ℕ) = some (ascending ts) in
      cond (is_forest identity (map ends X) && eqb (length ts) (tree_size G)) tree none

  -- the best of the completions of the admissible sets among Xs
  abbrev pub search_sets : List ℤ → List ℕ → List (List ℕ) → Option (List ℕ)
  search_sets bs cs Xs = search_in orderℤ (under bs) sum_order sum_key (completed cs) Xs

  -- the best tree under the bounds bs: over all sets of at most Σ (k - 1) exceptional links, completed by the normal links by cost, then number
  abbrev pub search_tree : List ℤ → Option (List ℕ)
  search_tree bs = search_sets bs (by_cost weight (normals bs)) (subsets (slack_of ks) (exceptionals bs))
