-- A set of exceptional links, completed by Kruskal's method over the normal links, is the best tree with these exceptional links: what the search
-- of `kmax` asks of a completion.
use Rattle.std.proofs.Math.Bool.{Bool}
use Rattle.std.specs.Prelude.{not}
use mathlib.Core.List.{List}
use Prim.Native.Nat.{ℕ}
use Rattle.order.specs.Lists.{filter}
use Rattle.spanning.specs.Best.{by_cost}
use Rattle.planning.specs.Graph.{Graph, links}

-- the links that do not pass a test, by cost
abbrev pub others : Graph → (ℕ → Bool) → List ℕ
others G p = by_cost G.weight (filter (λ c. not (p c)) (links G))
