-- The network of a shape, which the code hands on by value, and of the columns that it hands on beside it.
use Rattle.std.specs.Prelude.{ℕ, List, ◌≡◌, ℤ, length, take}
use Rattle.network.specs.Capacities.{ceilings_held}
use Rattle.network.specs.Network.{Network}
use Rattle.network.specs.Yard.{tree_size}
use Rattle.network.specs.NetworkFine.{NetworkFine}
use Rattle.network.specs.declared.Shape.{Shape}

-- the network that a shape and its columns say
abbrev pub net_of : Shape → List ℕ → List ℕ → List ℤ → Network
net_of shape ends sums costs =
    record { n = shape.n; p = shape.p; k = take shape.p shape.k; rest = shape.rest; m = shape.m; ends = ends; sums = sums; costs = costs }

-- a shape and columns whose network can be planned
pub record Plannable (shape : Shape) (ends sums : List ℕ) (costs : List ℤ) : Type 0 where
  pub fine : NetworkFine (net_of shape ends sums costs)
  -- t is the number of links of a tree
  pub tree : shape.t ≡ tree_size (net_of shape ends sums costs)
  -- the ranks have room
  pub ranks : length shape.k ≡ ceilings_held
