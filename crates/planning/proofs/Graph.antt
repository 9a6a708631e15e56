-- A graph of stations and links with costs, its spanning trees with their sums and k-max costs as a problem of `frontier`, and the search that
-- finds the best tree under ceilings without going through all trees. All of it computes on closed data.
use Rattle.std.specs.Prelude.{List, ◌≡◌, ℕ, length}
use Rattle.std.proofs.Common.{sym}
use Rattle.spanning.specs.Best.{tree_key, tree_order}
use Rattle.planning.specs.Graph.{Graph, Sound, sum_key, sum_order}

module _ (G : Graph) where
  open G use {stations, m, usable, ends, s, weight, cost, ks}

  -- ---- the problem

  -- THE TIE RULE for signed sums: of equally many links, the smaller sum and then dictionary order is the smaller weight and then dictionary order
  pub by-weight : Sound G → (us ts : List ℕ) → length us ≡ length ts
      → sum_order.le (sum_key G us) (sum_key G ts) ≡ tree_order.le (tree_key weight us) (tree_key weight ts)
  by-weight S us ts e = rw (S.weighs us ts e, S.weighs ts us (sym e))
