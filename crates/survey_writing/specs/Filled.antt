-- Writing once the kind is known and the yard's figures are not refused: the links, then 17.
use Rattle.std.specs.Prelude.{List, ◌≡◌, ℕ, ◌+◌, ◌*◌, ◌≤◌, ℤ, length}
use Rattle.std.proofs.Math.Path.{sym, ap}
use Rattle.std.proofs.Common.{◌∙◌, arith}
use borrow.Author.Tests.{ltb-false}
use Rattle.network.proofs.CheckedLaws.{refuse-fine}
use Rattle.std.proofs.Math.Dec.{ltb}
use Rattle.network.specs.Checked.{refuse_if, ◌or_else◌}
use Rattle.network.specs.Calls.{if_fine}
use Rattle.network.specs.Writing.{Figures, figures_from, links_figures_checked, survey_at_front, survey_in, yard_bytes}
use Rattle.network.specs.Checked.{Checked}
use Rattle.std.specs.Prelude.{Err}
use Rattle.network.specs.Checked.{no_refusal}
use Rattle.network.specs.declared.refusals.Rule.TheVariants.{ShortOutput}
use Rattle.network.specs.declared.Layout.{Layout}
use Rattle.network.specs.declared.refusals.Refusal.{Refusal}
use Rattle.network.specs.declared.YardFigures.{YardFigures}
use Rattle.buffers.specs.Overwrite.{overwrite}
use Rattle.survey_roundtrip.specs.Columns.{Full, columns_checked, link-many, links-checked}
use Rattle.survey_roundtrip.specs.Fields.{survey-length}
use Rattle.survey_roundtrip.specs.Layouts.{Writable, written_link}
use Rattle.survey_roundtrip.specs.Written.{records-all, records_to, survey-made}

-- 7 and 8 link by link, then 17: what is left of `write_checked` by then
unfoldable pub full_checked : Layout → Figures → ℕ → Checked
full_checked l f size = links_figures_checked f.yard f.links (length f.links) or_else refuse_if (ltb size (length (survey_in l f))) ShortOutput 0

-- the output after it
unfoldable pub full_after : Layout → Figures → List ℕ → List ℕ
full_after l f output = if_fine (full_checked l f (length output)) (survey_at_front (survey_in l f) output) output

module _ (l : Layout) (w : Writable l) (y : YardFigures) (ends : List ℕ) (sums costs : List ℤ) where
  abbrev f : Figures
  f = figures_from y ends sums costs

  -- the yard record and then the link records, written, are the survey
  pub survey-written : Full ends sums costs → (d : List ℕ) {o o' : List ℕ} → o ≡ overwrite d 0 (yard_bytes l y (length sums))
      → o' ≡ overwrite o l.yard.size (records_to l.link.mark ends sums costs (length sums)) → o' ≡ survey_at_front (survey_in l f) d
  unfolding figures_from
  survey-written full d e q =
      survey-made l w f d
      (e ∙ ap (λ (m : ℕ). overwrite d 0 (yard_bytes l y m)) (sym (link-many y ends sums costs)))
      (q ∙ ap (overwrite _ l.yard.size) (records-all l.link.mark ends sums costs full y))

  -- the survey has as many bytes as its records
  full-length : length (survey_in l f) ≡ l.yard.size + length sums * written_link
  full-length = survey-length l w f ∙ ap (λ (m : ℕ). l.yard.size + m * written_link) (link-many y ends sums costs)

  -- the bytes by the sizes of the records
  abbrev pub room_for : ℕ
  room_for = l.yard.size + length sums * l.link.size

  room : room_for ≡ length (survey_in l f)
  room = let e : length sums * l.link.size ≡ length sums * written_link = ap (λ (k : ℕ). length sums * k) w.link-size in omega (arith, full-length)

  module _ {c : Checked} (e : c ≡ columns_checked y ends sums costs (length sums)) (output : List ℕ) where
    checked : full_checked l f (length output) ≡ c or_else refuse_if (ltb (length output) (length (survey_in l f))) ShortOutput 0
    unfolding full_checked figures_from
    checked = ap (λ (k : Checked). k or_else refuse_if (ltb (length output) (length (survey_in l f))) ShortOutput 0) (links-checked y ends sums costs ∙ sym e)

    -- a link that is refused
    pub full-refused : (r : Refusal) → c ≡ Err r → (Err r ≡ full_checked l f (length output)) × (output ≡ full_after l f output)
    unfolding full_after ◌or_else◌ if_fine
    full-refused r q = (rw (checked, q), rw (checked, q))

    module _ (q : c ≡ no_refusal) where
      -- then the length decides
      last : full_checked l f (length output) ≡ refuse_if (ltb (length output) room_for) ShortOutput 0
      unfolding ◌or_else◌
      last = checked ∙ rw q (ap (λ (n : ℕ). refuse_if (ltb (length output) n) ShortOutput 0) (sym room))

      -- an output that is too short
      pub full-short : (r : Refusal) → refuse_if (ltb (length output) room_for) ShortOutput 0 ≡ Err r
          → (Err r ≡ full_checked l f (length output)) × (output ≡ full_after l f output)
      unfolding full_after if_fine
      full-short r h = let e = last ∙ h in (sym e, rw e)

      -- a survey that is written
      pub full-fine : refuse_if (ltb (length output) room_for) ShortOutput 0 ≡ no_refusal → {left : List ℕ} → left ≡ survey_at_front (survey_in l f) output
          → (no_refusal ≡ full_checked l f (length output)) × (left ≡ full_after l f output)
      unfolding full_after if_fine
      full-fine h written = let e = last ∙ h in (sym e, rw e written)

      -- it has room
      pub full-room : refuse_if (ltb (length output) room_for) ShortOutput 0 ≡ no_refusal → room_for ≤ length output
      full-room h = ltb-false _ _ (refuse-fine _ _ _ h)
