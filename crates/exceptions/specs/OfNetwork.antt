-- The patterns of a network's links under bounds: what they say is what the theory's ceilings say.
use Rattle.std.specs.Prelude.{ℕ, ◌<◌, not, ◌≡◌, refl, ℤ, length}
use mathlib.Core.List.Memᴰ.{head as here}
use mathlib.Core.List.Memᴰ.{tail as there}
use mathlib.Core.List.{List, [], ◌∷◌, map}
use Rattle.std.proofs.Common.{sym, ◌∙◌, arith}
use Rattle.std.proofs.Math.Path.{ap₂}
use Rattle.order.specs.Lists.{◌∈◌}
use Rattle.order.specs.Order.{orderℤ}
use Rattle.kmax.specs.Ceilings.{Ceiling, admissible, exceptional}
use Rattle.kmax.specs.Digits.{admits, pattern}
use Rattle.kmax.proofs.Digits.{admits-admissible, ceilings-ranks, pattern-none}
use Rattle.planning.specs.Graph.{under}
use Rattle.network.specs.Yard.{graph, ranks}
use Rattle.network.specs.NetworkFine.{NetworkFine}
use Rattle.network.specs.Network.{Network}
use Rattle.exceptions.specs.Patterns.{Patterned, admitted, normal, pattern_at, patterns-at, patterns-below, patterns-size, patterns_of}

-- the patterns of the links under the bounds bs
abbrev pub net_patterns : Network → List ℤ → List ℕ
net_patterns net bs = patterns_of net.m net.costs bs

module _ (net : Network) (fine : NetworkFine net) (bs : List ℤ) (each : length bs ≡ net.p) where
  -- the ceilings
  abbrev cs : List (Ceiling ℤ)
  cs = under (graph net) bs

  -- a bound for each of their ranks
  net-bounds : length bs ≡ length (ranks net)
  net-bounds = each ∙ sym fine.rank-count

  pub net-pattern : (e : ℕ) → e < net.m → pattern_at (net_patterns net bs) e ≡ pattern orderℤ cs e
  net-pattern e h = patterns-at net.m net.costs 0 (ranks net) bs net-bounds e h

  pub net-normal : (e : ℕ) → e < net.m → normal (net_patterns net bs) e ≡ not (exceptional orderℤ cs e)
  unfolding normal
  net-normal e h = rw (net-pattern e h) (pattern-none orderℤ cs e)

  all-patterns : (X : List ℕ) → ((x : ℕ) → x ∈ X → x < net.m) → map (pattern_at (net_patterns net bs)) X ≡ map (pattern orderℤ cs) X
  all-patterns [] h = refl
  all-patterns (x ∷ X) h = ap₂ (λ (p : ℕ) (ps : List ℕ). p ∷ ps) (net-pattern x (h x (here refl))) (all-patterns X (λ y m. h y (there m)))

  pub net-admitted : (X : List ℕ) → ((x : ℕ) → x ∈ X → x < net.m) → admitted (ranks net) (net_patterns net bs) X ≡ admissible orderℤ cs X
  unfolding admitted
  net-admitted X h =
      ap₂ (λ (ks ps : List ℕ). admits ks ps) (sym (ceilings-ranks (graph net).cost 0 (ranks net) bs net-bounds)) (all-patterns X h)
      ∙ admits-admissible orderℤ cs X

  pub net-patterned : Patterned net.m (ranks net) (net_patterns net bs)
  net-patterned =
      record {
        size = patterns-size net.m net.costs 0 bs;
        few = omega (arith, fine.rank-count, fine.few-ceilings);
        digits = λ e h. rw (← net-bounds) (patterns-below net.m net.costs 0 bs e h);
        positive = λ k m. (fine.ranked k m).0;
      }
