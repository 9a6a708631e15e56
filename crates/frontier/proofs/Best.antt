-- The best solution under given ceilings: what it is, how to show that a solution is it, and what becomes of it under lower ceilings
-- (Gorski, Klamroth, Ruzika, Lemmas 3.2 and 3.3).
use Rattle.std.specs.Prelude.{true, false, List, ◌≡◌}
use Rattle.std.proofs.Math.Option.{none, some}
use Rattle.order.specs.Lists.{◌∈◌}
use Rattle.order.proofs.Least.{least-exists, least-none, least-restrict, least-restrict-none, least-some}
use Rattle.frontier.specs.Dominance.{le_all}
use Rattle.frontier.proofs.Dominance.{le_all-trans}
use Rattle.frontier.specs.Frontier.{Problem, best, fits}
use Rattle.frontier.specs.Best.{Optimal}

module _ {C S : Type 0} (P : Problem C S) where
  open P use {order, solutions, objective, ceilings}

  pub best-some : (b : List C) (s : S) → best P b ≡ some s → Optimal P b s
  best-some b s e = least-some order objective (fits P b) solutions s e

  pub best_none : (b : List C) → best P b ≡ none → {s : S} → s ∈ solutions → fits P b s ≡ false
  best_none b e m = least-none order objective (fits P b) solutions e m

  pub best-exists : (b : List C) {s : S} → s ∈ solutions → fits P b s ≡ true → (t : S) × (best P b ≡ some t)
  best-exists b m k = least-exists order objective (fits P b) solutions m k

  -- what fits under lower ceilings fits under higher ones
  pub fits-mono : (b c : List C) → le_all order c b ≡ true → (s : S) → fits P c s ≡ true → fits P b s ≡ true
  fits-mono b c h s k = le_all-trans order (ceilings s) c b k h

  -- Lemma 3.2: the best solution under b is best under any lower ceilings that it fits
  pub best-below : (b c : List C) (s : S) → best P b ≡ some s → le_all order c b ≡ true → fits P c s ≡ true → best P c ≡ some s
  best-below b c s e h k = least-restrict order objective (fits P b) (fits P c) (fits-mono b c h) solutions s e k

  -- Lemma 3.3: where nothing fits, nothing fits under lower ceilings
  pub none_below : (b c : List C) → best P b ≡ none → le_all order c b ≡ true → best P c ≡ none
  none_below b c e h = least-restrict-none order objective (fits P b) (fits P c) (fits-mono b c h) solutions e
