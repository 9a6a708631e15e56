-- What the definitions of Yard.antt mean: the test of a tree says that a list of usable links connects all working stations and has no ring, and
-- dominance and the best tree are what document 01 calls so.
use Rattle.std.specs.Prelude.{true, List, ◌≡◌, ℕ, ℤ}
use Rattle.std.specs.Int.Signed.{le_z}
use Rattle.order.specs.Order.{dictionary_le, orderℕ}
use Rattle.network.specs.Yard.{Tree, fits, tree_sum}
use Rattle.network.specs.Network.{Network}

-- the best tree under ceilings: a tree that fits, of the least sum among those that fit, and of these the first
pub record Best (net : Network) (bs : List ℤ) (ts : List ℕ) : Type 0 where
  pub tree : Tree net ts
  pub fitting : fits net bs ts ≡ true
  pub least : (us : List ℕ) → Tree net us → fits net bs us ≡ true → le_z (tree_sum net ts) (tree_sum net us) ≡ true
  pub foremost : (us : List ℕ) → Tree net us → fits net bs us ≡ true → le_z (tree_sum net us) (tree_sum net ts) ≡ true → dictionary_le orderℕ ts us ≡ true
