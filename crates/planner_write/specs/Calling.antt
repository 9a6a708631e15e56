-- The ways that the call goes: a kind that is not known, a yard that is refused, and the rest by full columns.
use Rattle.std.specs.Prelude.{true, false, ◌&&◌, List, ◌≡◌, ℕ, ◌*◌, ◌≤◌, leb, ℤ, length, take}
use Rattle.std.proofs.Common.{sym, subst, ◌∙◌, leb-true, ltb-false}
use Rattle.std.proofs.Math.Path.{ap}
use Rattle.order.specs.Test.{clash, left}
use Rattle.order.proofs.Test.{right}
use Rattle.network.specs.Limits.{max_links}
use Rattle.network.specs.Checked.{Checked, no_refusal, refuse_if, ◌or_else◌}
use Rattle.network.proofs.CheckedLaws.{fine-both, refuse-fine}
use Rattle.network.specs.Calls.{if_fine, status}
use Rattle.network.specs.Writing.{Figures, figures_checked, figures_from, layout_for, unknown_kind, write_after, write_checked, write_status}
use Rattle.network.specs.Writing.{yard_figures_checked}
use Rattle.network.specs.WritingPromise.{WritePromised}
use Rattle.std.specs.Prelude.{Err}
use Rattle.network.specs.declared.refusals.Rule.TheVariants.{WrongMark}
use Rattle.network.specs.declared.Layout.{Layout}
use Rattle.network.specs.declared.refusals.Refusal.{Refusal}
use Rattle.network.specs.declared.YardFigures.{YardFigures}
use Rattle.survey_roundtrip.specs.Columns.{Full, full-figures, full_costs, full_ends, full_sums, link-many, made-full, refused-fine}
use Rattle.survey_roundtrip.specs.Fields.{Met}
use Rattle.survey_writing.specs.Filled.{full_after, full_checked}
use Rattle.planner_write.specs.Promised.{promised}

-- ---- the tests

-- a yard that is not refused has no more links than it may
pub few-links : (y : YardFigures) (m : ℕ) → yard_figures_checked y m ≡ no_refusal → m ≤ max_links
unfolding yard_figures_checked
few-links y m e =
    let to5 = fine-both _ _ e in
    let to4 = fine-both _ _ to5.0 in
    ltb-false max_links m (refuse-fine _ _ _ (fine-both _ _ to4.0).1)

-- columns that passed the test of their lengths
pub long-enough : (y : YardFigures) (ends : List ℕ) (sums costs : List ℤ) → yard_figures_checked y (length sums) ≡ no_refusal
    → leb (2 * length sums) (length ends) && leb (2 * length sums) (length costs) ≡ true → Full ends sums costs
long-enough y ends sums costs e test =
    record {
      all-ends = leb-true _ _ (left (leb (2 * length sums) (length ends)) _ test);
      all-costs = leb-true _ _ (right (leb (2 * length sums) (length ends)) _ test);
      few = few-links y (length sums) e;
    }

-- ---- the ways

-- the reply, what is left, and what callers rely on
abbrev pub Kept : ℕ → Figures → List ℕ → Checked → List ℕ → Type 0
Kept kind f output r left =
    (r ≡ write_checked kind f (length output)) × ((left ≡ write_after kind f output) × WritePromised kind f output (status r) left)

module _ (kind : ℕ) (y : YardFigures) (ends : List ℕ) (sums costs : List ℤ) (output : List ℕ) where
  abbrev f : Figures
  f = figures_from y ends sums costs

  -- the yard's verdict, by the number of sum costs
  yard : yard_figures_checked f.yard (length f.links) ≡ yard_figures_checked y (length sums)
  unfolding figures_from
  yard = ap (yard_figures_checked y) (link-many y ends sums costs)

  -- all that the call ensures follows from its reply and the bytes
  kept : (unknown_kind kind ≡ false → yard_figures_checked y (length sums) ≡ no_refusal → Met f) → {r : Checked} {left : List ℕ}
      → r ≡ write_checked kind f (length output) → left ≡ write_after kind f output → Kept kind f output r left
  unfolding write_status
  kept met reply leaves = (reply, (leaves, promised kind f output (λ q e. met q (sym yard ∙ e)) (ap status reply) leaves))

  -- a kind that is not known
  pub by_kind : unknown_kind kind ≡ true → Kept kind f output (Err (record { rule = WrongMark; place = 0 })) output
  unfolding write_after write_checked refuse_if ◌or_else◌ if_fine
  by_kind e = kept (λ q x. clash e q) (rw e) (rw e)

  module _ (named : unknown_kind kind ≡ false) where
    -- a yard that is refused
    pub by-yard : (r : Refusal) → yard_figures_checked y (length sums) ≡ Err r → Kept kind f output (Err r) output
    unfolding write_after write_checked figures_checked refuse_if ◌or_else◌ if_fine
    by-yard r e = kept (λ q x. absurd (refused-fine e x)) (rw (named, yard, e)) (rw (named, yard, e))

    -- the rest, by the columns
    pub by-links : {l : Layout} → l ≡ layout_for kind → yard_figures_checked y (length sums) ≡ no_refusal → {r : Checked} {left : List ℕ}
        → r ≡ full_checked l f (length output) → left ≡ full_after l f output → Met f → Kept kind f output r left
    unfolding write_after write_checked figures_checked full_after full_checked refuse_if ◌or_else◌
    by-links layout e p q met =
        kept (λ x z. met)
        (p ∙ ap (λ (l : Layout). full_checked l f (length output)) layout ∙ rw (named, yard, e))
        (q ∙ ap (λ (l : Layout). full_after l f output) layout ∙ rw (named, yard, e))

    -- the same by columns that were made full
    pub by-full : {l : Layout} {all : List ℕ} {sum each : List ℤ} → l ≡ layout_for kind → all ≡ full_ends ends
        → sum ≡ full_sums y.p sums (length costs) → each ≡ full_costs costs
        → yard_figures_checked y (length sums) ≡ no_refusal → {r : Checked} {left : List ℕ}
        → r ≡ full_checked l (figures_from y all (take (length sums) sum) each) (length output)
        → left ≡ full_after l (figures_from y all (take (length sums) sum) each) output
        → Met (figures_from y all (take (length sums) sum) each) → Kept kind f output r left
    by-full {l} layout a b d e p q met =
        let same =
        (λ k. figures_from y (a k) (take (length sums) (b k)) (d k)) ∙ full-figures y ends sums costs (few-links y (length sums) e) in
        by-links layout e
        (p ∙ ap (λ (g : Figures). full_checked l g (length output)) same)
        (q ∙ ap (λ (g : Figures). full_after l g output) same)
        (subst Met same met)

-- columns made full are full
pub filled : {all : List ℕ} {sum each : List ℤ} (y : YardFigures) (ends : List ℕ) (sums costs : List ℤ) → all ≡ full_ends ends
    → sum ≡ full_sums y.p sums (length costs) → each ≡ full_costs costs
    → yard_figures_checked y (length sums) ≡ no_refusal → Full all (take (length sums) sum) each
filled y ends sums costs a b d e = rw (a, b, d) (made-full y ends sums costs (few-links y (length sums) e))
