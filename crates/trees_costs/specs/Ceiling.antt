-- A ceiling cost of a list of links: what the code computes of the ceiling's column, which has a cost for each link of the network.
use Prim.Native.Nat.{ℕ, ◌≤◌, ◌<◌}
use Rattle.std.specs.Prelude.{List, map, pos}
use Rattle.std.proofs.Math.IntN.{ℤ}
use Rattle.std.proofs.Math.ListN.{length}
use Rattle.order.specs.Order.{orderℤ}
use Rattle.kmax.specs.KMax.{kmax}
use Rattle.network.specs.Capacities.{tree_held}
use Rattle.network.specs.Yard.{cost_at}
use Rattle.trees_costs.specs.Added.{Below}

-- at most t links, whose costs the column has
pub record FiguresFine (costs : List ℤ) (ts : List ℕ) : Type 0 where
  pub known : Below (length costs) ts
  pub few : length ts ≤ tree_held

-- and the rank k is one of theirs
pub record CeilingFine (costs : List ℤ) (k : ℕ) (ts : List ℕ) : Type 0 where
  pub figures : FiguresFine costs ts
  pub rank : (0 < k) × (k ≤ length ts)

-- the ceiling cost of the links, by the ceiling's column and its rank k
unfoldable pub ceiling_of : List ℤ → ℕ → List ℕ → ℤ
ceiling_of costs k ts = kmax orderℤ k (map (cost_at costs) ts) (pos 0)
