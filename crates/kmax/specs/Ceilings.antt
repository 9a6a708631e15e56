-- Ceilings on the k-max costs of a set of edges. A tree fits where, for each ceiling, fewer than k of its edges exceed it:
-- so only its exceptional edges decide, and they are few. For any number of ceilings and any k.
use Rattle.std.specs.Prelude.{Bool, List, [], ◌∷◌, map, ℕ, suc, ◌+◌, ◌-◌, ◌≤◌, ◌<◌, ltb}
use Rattle.order.specs.Lists.{◌∈◌, all, any}
use Rattle.order.specs.Order.{TotalOrder}
use Rattle.kmax.specs.KMax.{above, count_above, kmax}

-- ---- definitions

-- a ceiling: the `rank`-th largest `cost` of the edges is to be at most `bound`
pub record Ceiling (C : Type 0) : Type 0 where
  pub rank : ℕ
  pub bound : C
  pub cost : ℕ → C

-- the ceilings i, i + 1, .. from their ranks and bounds, where `cost i e` is what the edge e costs by ceiling i
abbrev pub ceilings : {C : Type 0} → (ℕ → ℕ → C) → ℕ → List ℕ → List C → List (Ceiling C)
ceilings cost i [] bs = []
ceilings cost i (k ∷ ks) [] = []
ceilings cost i (k ∷ ks) (b ∷ bs) = record { rank = k; bound = b; cost = cost i } ∷ ceilings cost (suc i) ks bs

-- each rank is at least 1 and at most n, the number of edges of a tree
abbrev pub Ranked : {C : Type 0} → List (Ceiling C) → ℕ → Type 0
Ranked {C} cs n = (c : Ceiling C) → c ∈ cs → (0 < c.rank) × (c.rank ≤ n)

-- the most exceptions that all ceilings together allow
abbrev pub slack : {C : Type 0} → List (Ceiling C) → ℕ
slack [] = 0
slack (c ∷ cs) = (c.rank - 1) + slack cs

-- the same from the ranks alone
abbrev pub slack_of : List ℕ → ℕ
slack_of [] = 0
slack_of (k ∷ ks) = (k - 1) + slack_of ks

module _ {C : Type 0} (O : TotalOrder C) where
  -- the edge e costs more than the ceiling's bound
  abbrev pub exceeds : Ceiling C → ℕ → Bool
  exceeds c e = above O c.bound (c.cost e)

  -- an edge that exceeds some ceiling; any other is normal
  abbrev pub exceptional : List (Ceiling C) → ℕ → Bool
  exceptional cs e = any (λ c. exceeds c e) cs

  -- for each ceiling, fewer than `rank` edges of X exceed it
  abbrev pub admissible : List (Ceiling C) → List ℕ → Bool
  admissible cs X = all (λ c. ltb (count_above O c.bound (map c.cost X)) c.rank) cs

  -- the ceiling's k-max cost of the edges ts
  abbrev pub ceiling_cost : Ceiling C → C → List ℕ → C
  ceiling_cost c d ts = kmax O c.rank (map c.cost ts) d

  -- each k-max cost of ts is at most its bound
  abbrev pub meets : List (Ceiling C) → C → List ℕ → Bool
  meets cs d ts = all (λ c. O.le (ceiling_cost c d ts) c.bound) cs
