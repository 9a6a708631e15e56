-- What callers rely on in a survey that is written follows from the reply and from the bytes.
use Rattle.std.proofs.Math.Bool.{false}
use Rattle.std.specs.Prelude.{List, ◌≡◌, ℕ, ◌≤◌, drop, length}
use Rattle.std.proofs.Math.Path.{refl, sym, ap}
use Rattle.std.proofs.Common.{◌∙◌}
use borrow.Author.Tests.{le-ltb}
use Rattle.std.proofs.Math.Dec.{ltb}
use Rattle.std.proofs.Math.ListN.{take}
use Rattle.std.proofs.Math.Seq.{take_at}
use Rattle.network.specs.Checked.{refuse_if, ◌or_else◌}
use Rattle.network.proofs.CheckedLaws.{fine-both, refuse-fine, status-fine}
use Rattle.network.specs.Refusals.{checked_of}
use Rattle.network.specs.Calls.{if_fine, status}
use Rattle.network.specs.Writing.{Figures, figures_checked, kind_of, layout_for, survey_at_front, survey_of, unknown_kind}
use Rattle.network.specs.Writing.{write_after, write_checked, write_status, yard_figures_checked}
use Rattle.network.specs.WritingPromise.{Known, OfBytes, Says, WritePromised}
use Rattle.network.specs.Checked.{no_refusal}
use Rattle.network.specs.declared.refusals.Rule.TheVariants.{ShortOutput}
use Rattle.network.specs.declared.Layout.{Layout}
use Rattle.network.specs.declared.refusals.Status.{Status}
use Rattle.survey_roundtrip.specs.Fields.{Met, survey-layout}
use Rattle.survey_roundtrip.specs.Former.{figures-survey}
use Rattle.survey_roundtrip.specs.Layouts.{kind-known, kind-listed, kind-missed, writable-for}
use Rattle.survey_roundtrip.specs.ReadBack.{figures-read, legal-fit, reader-agrees}

module _ (kind : ℕ) (f : Figures) (output : List ℕ) (met : unknown_kind kind ≡ false → yard_figures_checked f.yard (length f.links) ≡ no_refusal → Met f) where
  abbrev l : Layout
  l = layout_for kind

  abbrev s : List ℕ
  s = survey_of f kind

  -- what the reader says of the survey is what its figures get
  agrees : unknown_kind kind ≡ false → checked_of s ≡ figures_checked f
  agrees known = reader-agrees l (writable-for kind) f (met known)

  -- the parts of a check that found nothing
  pub record Passed : Type 0 where
    pub known : unknown_kind kind ≡ false
    pub legal : figures_checked f ≡ no_refusal
    pub room : ltb (length output) (length s) ≡ false

  passed : write_checked kind f (length output) ≡ no_refusal → Passed
  unfolding write_checked
  passed e =
      let both = fine-both _ _ e in
      let first = fine-both _ _ both.0 in
      record { known = refuse-fine _ _ _ first.0; legal = first.1; room = refuse-fine _ _ _ both.1 }

  -- the survey says the figures
  says : Passed → Says s kind f
  says p =
      record {
        accepted = agrees p.known ∙ p.legal;
        kept = ap kind_of (survey-layout l (writable-for kind) f) ∙ kind-known kind p.known;
        read = figures-read l (writable-for kind) f (legal-fit l (writable-for kind) f p.legal (met p.known));
      }

  module _ {r : Status} {left : List ℕ} (reply : r ≡ write_status kind f (length output)) (leaves : left ≡ write_after kind f output) where
    read_back : r ≡ status no_refusal → Says (take (length s) left) kind f
    unfolding write_status write_after survey_at_front if_fine
    read_back e =
        let fine = status-fine (write_checked kind f (length output)) (sym reply ∙ e) in
        let front : take (length s) left ≡ s =
        ap (take (length s)) (leaves ∙ rw fine) ∙ take_at s (drop (length s) output) (length s) refl in
        rw front (says (passed fine))

    as-reader : unknown_kind kind ≡ false → r ≡ status (checked_of s or_else refuse_if (ltb (length output) (length s)) ShortOutput 0)
    unfolding write_status write_checked refuse_if ◌or_else◌
    as-reader known = reply ∙ rw (known, agrees known)

  module _ {r : Status} {left : List ℕ} (reply : r ≡ write_status kind f (length output)) (leaves : left ≡ write_after kind f output) where
    former : (t : List ℕ) → OfBytes t → Says t kind f → Known kind → length t ≤ length output → (r ≡ status no_refusal) × (left ≡ survey_at_front t output)
    unfolding write_status write_after write_checked refuse_if ◌or_else◌ if_fine
    former t bytes told listed room =
        let known = kind-listed kind listed in
        let same = figures-survey t kind f bytes told known in
        let legal : figures_checked f ≡ no_refusal = sym (agrees known) ∙ ap checked_of same ∙ told.accepted in
        let enough : ltb (length output) (length t) ≡ false = le-ltb (length output) (length t) room in
        (reply ∙ rw (known, legal, same, enough), leaves ∙ rw (known, legal, same, enough))

    other : (Known kind → ⊥) → r ≡ record { number = 2; place = 0 }
    unfolding write_status write_checked refuse_if ◌or_else◌ status
    other missed = reply ∙ rw (kind-missed kind missed)

    pub promised : WritePromised kind f output r left
    promised =
        record {
          read_back = read_back reply leaves;
          former = former;
          as_reader = λ listed. as-reader reply leaves (kind-listed kind listed);
          other_kind = other;
        }
