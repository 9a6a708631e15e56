-- The trial that takes the lead: the tree that it stands for is the one that the specs choose.
use Rattle.std.specs.Prelude.{ℕ, ◌≤◌, ◌<◌, Bool, cond, List, ◌≡◌, Option, Some, None, IfSome}
use Rattle.std.proofs.Math.Bool.{not, ◌&&◌}
use Rattle.std.proofs.Math.Path.{sym}
use Rattle.std.proofs.Common.{arith}
use Rattle.std.proofs.Math.Dec.{eqb, leb, ltb}
use borrow.Author.Tests.{eqb-true, eqb-false, le-leb, lt-leb, ltb-false, ltb-true, ne_eqb}
use Rattle.order.specs.Test.{by-test}
use Rattle.kruskal.specs.Grown.{flags_of}
use Rattle.kruskal.specs.Tree.{Tree}
use Rattle.search_trials.specs.Flags.{first}
use Rattle.search_trials.specs.Marks.{Flagged}
use Rattle.search_trials.specs.Search.{beats, nothing, offered}
use Rattle.search_trials.specs.Stands.{Stands, best_by, links_by}
use Rattle.search_trials.specs.declared.best.Trial.{Trial}

-- the trial t comes before the trial u
unfoldable pub first_by : List ℕ → Trial → Trial → Bool
first_by base t u = first (flags_of (links_by base t)) (flags_of (links_by base u))

-- t spans, that is has `goal` links, and has no higher sum than the lead
abbrev pub contending : ℕ → Option Trial → Trial → Bool
contending goal None t = eqb t.count goal
contending goal (Some b) t = eqb t.count goal && leb t.sum b.sum

-- a trial that contends takes the lead, unless it has the sum of the lead and does not come first
abbrev pub chosen : List ℕ → Option Trial → Trial → Option Trial
chosen base None t = Some t
chosen base (Some b) t = cond (eqb t.sum b.sum && not (first_by base t b)) (Some b) (Some t)

-- its exceptions have flags, as those of both have
pub chosen-flagged : (base : List ℕ) (c : Option Trial) (t : Trial) → IfSome c Flagged → Flagged t → IfSome (chosen base c t) Flagged
chosen-flagged base None t f g = g
chosen-flagged base (Some b) t f g = by-test (eqb t.sum b.sum && not (first_by base t b)) (λ k. rw k f) (λ k. rw k g)

-- the lead, once a trial has had its turn
abbrev pub competed : List ℕ → ℕ → Option Trial → Trial → Option Trial
competed base goal c t = cond (contending goal c t) (chosen base c t) c

module _ (base : List ℕ) (goal : ℕ) {u : Tree} {t : Trial} (stands : Stands base u t) where
  -- no tree was found yet
  none_yet : offered goal nothing u ≡ best_by base (competed base goal None t)
  unfolding offered beats nothing
  none_yet = rw (← stands.count, ← stands.sum, ← stands.flags) (by-test (eqb t.count goal) (λ k. rw k) (λ k. rw k))

  -- one was found: it has a higher sum, or the same
  some_yet : (b : Trial) → offered goal (best_by base (Some b)) u ≡ best_by base (competed base goal (Some b) t)
  unfolding offered beats first_by
  some_yet b =
      rw (← stands.count, ← stands.sum, ← stands.flags) (by-test (eqb t.count goal)
      (λ k. rw k (by-test (ltb t.sum b.sum)
      (λ l. rw (l, le-leb t.sum b.sum (omega (arith, ltb-true t.sum b.sum l)), ne_eqb t.sum b.sum (λ q. omega (arith, ltb-true t.sum b.sum l))))
      (λ l. by-test (eqb t.sum b.sum)
      (λ s.
      rw (l, s, le-leb t.sum b.sum (omega (arith, eqb-true t.sum b.sum s)))
      (by-test (first (flags_of (links_by base t)) (flags_of (links_by base b))) (λ f. rw f) (λ f. rw f)))
      (λ s. rw (l, s, lt-leb t.sum b.sum (above t.sum b.sum (eqb-false t.sum b.sum s) (ltb-false t.sum b.sum l)))))))
      (λ k. rw k))
    where
      above : (x y : ℕ) → (x ≡ y → ⊥) → y ≤ x → y < x
      above x y d h = by-test (ltb y x) (λ l. ltb-true y x l) (λ l. absurd (d (omega (arith, ltb-false y x l))))

  -- a trial that stands for a tree has its turn as the tree is offered
  pub competed-best : (c : Option Trial) → best_by base (competed base goal c t) ≡ offered goal (best_by base c) u
  competed-best None = sym none_yet
  competed-best (Some b) = sym (some_yet b)

-- its exceptions have flags
pub competed-flagged : (base : List ℕ) (goal : ℕ) (c : Option Trial) (t : Trial) → IfSome c Flagged → Flagged t → IfSome (competed base goal c t) Flagged
competed-flagged base goal c t f g = by-test (contending goal c t) (λ e. rw e (chosen-flagged base c t f g)) (λ e. rw e f)
