-- Exceptional links of several patterns, exchanged one pattern after the other: for each tree there is one that fits where that fits and is no worse,
-- and each of whose links is among those that Kruskal's method keeps of the links of its pattern. So a search may try sets of such links alone.
-- For any number of ceilings and any ranks.
use Rattle.std.specs.Prelude.{Bool, true, ◌≡◌, ℕ, eqb, ℤ}
use mathlib.Core.List.{List}
use Rattle.order.specs.Lists.{◌∈◌, filter}
use Rattle.order.specs.Order.{orderℤ}
use Rattle.spanning.specs.Best.{by_cost}
use Rattle.kmax.specs.Pattern.{lone}
use Rattle.kmax.specs.Digits.{pattern}
use Rattle.planning.specs.Graph.{Graph, Sound, links, under}
use Rattle.planning.specs.Search.{base}
use Rattle.planning.specs.Exchange.{DoesFor}

module _ (G : Graph) (bs : List ℤ) where
  open G use {weight}

  -- the link has the pattern q
  abbrev pub has : ℕ → ℕ → Bool
  has q x = eqb (pattern orderℤ (under G bs) x) q

  -- what Kruskal's method keeps of the links of the pattern q
  abbrev pub keeps : ℕ → List ℕ
  keeps q = base G (by_cost weight (filter (has q) (links G)))

  -- us does for ts, and its links of the patterns qs are kept
  pub record AllExchanged (S : Sound G) (qs ts us : List ℕ) : Type 0 where
    pub does : DoesFor G S bs ts us
    pub kept : (q : ℕ) → q ∈ qs → (x : ℕ) → x ∈ us → has q x ≡ true → x ∈ keeps q

  -- a link that needs to be tried: exceptional, admissible by itself, and kept among the links of its pattern
  pub record KeptLink (x : ℕ) : Type 0 where
    pub alone : lone orderℤ (under G bs) x ≡ true
    pub kept : x ∈ keeps (pattern orderℤ (under G bs) x)
