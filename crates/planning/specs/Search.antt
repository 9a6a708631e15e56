-- The search over sets of exceptional links, for THE THEOREM of proofs/: that it finds the best tree under the ceilings, for any number of stations,
-- links and ceilings. It may go over the links that one run of Kruskal's method keeps of the normal ones.
use Rattle.std.specs.Prelude.{ℕ, ℤ, pos}
use mathlib.Core.List.{List}
use Rattle.order.specs.Order.{orderℤ}
use Rattle.spanning.specs.Tree.{identity}
use Rattle.spanning.specs.Kruskal.{kruskal}
use Rattle.kmax.specs.Search.{Enough}
use Rattle.planning.specs.Graph.{Graph, links, under}
use Rattle.planning.specs.Graph.{sum_key, sum_order, trees}

module _ (G : Graph) where
  open G use {stations, m, usable, ends, weight, cost, ks}

  -- ---- a shorter list of candidates

  -- the candidates that Kruskal's method keeps with nothing joined: at most as many as a tree has
  abbrev pub base : List ℕ → List ℕ
  base cs = kruskal ends identity cs

  -- ---- the theorem

  -- the sets Xs of exceptional links are enough for a search under the bounds bs
  abbrev pub EnoughSets : List ℤ → List (List ℕ) → Type 0
  EnoughSets bs Xs =
      Enough orderℤ (pos 0) (under G bs) sum_order (sum_key G) (links G) (trees G) Xs
