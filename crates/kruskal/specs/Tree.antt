-- Kruskal's method as a program has it: a forest value that takes one link after another. What a walk over links needs of its input.
use Rattle.std.specs.Prelude.{ℕ, ◌+◌, ◌*◌, ◌≤◌, ◌<◌, Bool, cond, false, true, List, ◌≡◌, length, get_or, set, replicate}
use Rattle.order.specs.Lists.{◌∈◌}
use Rattle.order.proofs.Lists.{get_or-mem}
use Rattle.spanning.specs.Labelling.{crosses}
use Rattle.spanning.specs.LabelList.{label_of}
use Rattle.network.specs.Capacities.{links_held, sum_held}
use Rattle.network.specs.Yard.{ends_at, sum_at}
use Rattle.forest.specs.Groups.{apart, joined}
use Rattle.forest.specs.declared.Forest.{Forest}

-- a forest of links: its groups, a flag for each link, the sum of the raised costs of its links, and their number
pub record Tree : Type 0 where
  pub forest : Forest
  pub taken : List Bool
  pub sum : ℕ
  pub count : ℕ

-- no link is taken
unfoldable pub bare : Tree
bare = record { forest = apart; taken = replicate links_held false; sum = 0; count = 0 }

-- the forest with link e taken
unfoldable pub added : List ℕ → List ℕ → Tree → ℕ → Tree
added ends sums t e =
    record {
      forest = joined t.forest (ends_at ends e).a (ends_at ends e).b;
      taken = set t.taken e true;
      sum = t.sum + sum_at sums e;
      count = t.count + 1;
    }

-- link e is taken where it joins two groups
unfoldable pub linked : List ℕ → List ℕ → Tree → ℕ → Tree
linked ends sums t e = cond (crosses (label_of t.forest.leader) (ends_at ends e)) (added ends sums t e) t

-- ---- what a walk needs

-- there are two ends and a cost for each of the links
pub record Columns (ends sums : List ℕ) : Type 0 where
  pub ends-size : length ends ≡ 2 * length sums
  pub sums-size : length sums ≤ links_held

-- link e is one of the links, with a cost in range
pub record Usable (sums : List ℕ) (e : ℕ) : Type 0 where
  pub below : e < length sums
  pub cheap : sum_at sums e ≤ sum_held

-- a list of such links, with no more of them than arrays hold
pub record Walkable (sums l : List ℕ) : Type 0 where
  pub few : length l ≤ links_held
  pub usable : (e : ℕ) → e ∈ l → Usable sums e

-- the link at a place of the walk is such a link
pub walk-usable : {sums l : List ℕ} → Walkable sums l → (k : ℕ) → k < length l → Usable sums (get_or l k 0)
walk-usable {l = l} w k h = w.usable (get_or l k 0) (get_or-mem l k 0 h)
