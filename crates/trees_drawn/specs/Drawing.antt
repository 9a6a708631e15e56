-- One link more of a list that is gone through: it is to be above the one before, below m, usable, and to join two groups.
use Rattle.std.specs.Prelude.{ℕ, ◌+◌, ◌≡◌, Bool, true, false, ◌&&◌, cond, List, Option, Some, None, leb, ltb}
use Rattle.order.specs.Test.{by-test}
use Rattle.spanning.specs.Labelling.{crosses}
use Rattle.spanning.specs.LabelList.{label_of}
use Rattle.spanning.specs.Tree.{EndsBelow}
use Rattle.forest.specs.Groups.{Led, joined, joined-led}
use Rattle.network.specs.Capacities.{stations_held}
use Rattle.network.specs.Yard.{ends_at, joins_working}
use Rattle.trees_drawn.specs.declared.drawing.Drawn.{Drawn}

-- link c keeps to the rules after the links that d has seen
abbrev pub keeps : ℕ → List ℕ → ℕ → Drawn → ℕ → Bool
keeps rest ends m d c = ((leb d.low c && ltb c m) && joins_working rest (ends_at ends c)) && crosses (label_of d.groups.leader) (ends_at ends c)

-- the links so far with link c
unfoldable pub with_link : List ℕ → Drawn → ℕ → Drawn
with_link ends d c = record { groups = joined d.groups (ends_at ends c).a (ends_at ends c).b; low = c + 1 }

-- one link more, if it keeps to the rules
unfoldable pub drawing : ℕ → List ℕ → ℕ → Drawn → ℕ → Option Drawn
drawing rest ends m d c = cond (keeps rest ends m d c) (Some (with_link ends d c)) None

module _ (rest : ℕ) (ends : List ℕ) (m : ℕ) (d : Drawn) (c : ℕ) where
  pub drawing-kept : {e : Drawn} → keeps rest ends m d c ≡ true → e ≡ with_link ends d c → Some e ≡ drawing rest ends m d c
  unfolding drawing
  drawing-kept t q = rw (t, q)

  pub drawing-broken : keeps rest ends m d c ≡ false → None ≡ drawing rest ends m d c
  unfolding drawing
  drawing-broken f = rw f

  pub drawing-some : {e : Drawn} → Some e ≡ drawing rest ends m d c → (keeps rest ends m d c ≡ true) × (e ≡ with_link ends d c)
  unfolding drawing
  drawing-some q =
      by-test (keeps rest ends m d c)
      (λ t. (t, let r = rw t at q in cc))
      (λ f. let r = rw f at q in cc)

  pub drawing-none : None ≡ drawing rest ends m d c → keeps rest ends m d c ≡ false
  unfolding drawing
  drawing-none q =
      by-test (keeps rest ends m d c)
      (λ t. let r = rw t at q in cc)
      (λ f. f)

-- between two stations it leaves the groups led
pub drawing-led : (ends : List ℕ) (d : Drawn) (c : ℕ) → EndsBelow stations_held (ends_at ends c) → Led d.groups → Led (with_link ends d c).groups
unfolding with_link
drawing-led ends d c w led = joined-led d.groups (ends_at ends c).a (ends_at ends c).b led w.0 w.1
