-- Links that exceed the same ceilings are exchanged: for each tree there is one that fits where that fits and is no worse, and whose links of the
-- one pattern are all among those that Kruskal's method keeps of them. A search may leave the others out. For any one pattern and any number of
-- ceilings; the other links stay, so that patterns can be taken in turn.
use Rattle.std.specs.Prelude.{Bool, true, false, List, ◌≡◌, ℕ, ℤ, pos}
use Rattle.order.specs.Lists.{◌∈◌, filter}
use Rattle.order.specs.Order.{orderℤ}
use Rattle.spanning.specs.Best.{by_cost}
use Rattle.kmax.specs.Ceilings.{meets}
use Rattle.planning.specs.Graph.{Graph, NoWorse, Sound, links, trees, under}
use Rattle.planning.specs.Search.{base}

module _ (G : Graph) (S : Sound G) (bs : List ℤ) where
  open G use {stations, m, usable, ends, weight}

  -- us does for ts: a tree that fits where ts fits, and is no worse
  pub record DoesFor (ts us : List ℕ) : Type 0 where
    pub tree : us ∈ trees G
    pub fits : meets orderℤ (under G bs) (pos 0) us ≡ meets orderℤ (under G bs) (pos 0) ts
    pub better : NoWorse G us ts

  -- it does, and its links that pass the test p are among those kept of them
  pub record Exchanged (p : ℕ → Bool) (ts us : List ℕ) : Type 0 where
    pub does : DoesFor ts us
    pub kept : (x : ℕ) → x ∈ us → p x ≡ true → x ∈ base G (by_cost weight (filter p (links G)))
    pub stays : (x : ℕ) → x ∈ us → p x ≡ false → x ∈ ts
