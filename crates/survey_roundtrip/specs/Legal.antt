-- The figures of an accepted survey, of a kind that is written, are legal: the writer declines none of them.
use Rattle.std.specs.Prelude.{List, ◌≡◌, ℕ, ◌+◌, ◌*◌, ◌<◌, get_or, length}
use Rattle.std.proofs.Common.{sym, ap, ◌∙◌, arith}
use Rattle.network.specs.Survey.{layout_of, link_start}
use Rattle.network.specs.Refusals.{checked_of}
use Rattle.network.proofs.Accepted.{accepted-records}
use Rattle.network.specs.Writing.{figures_checked, figures_in, figures_of, no_link}
use Rattle.network.specs.WritingPromise.{OfBytes}
use Rattle.network.specs.Checked.{no_refusal}
use Rattle.network.specs.declared.Layout.{Layout}
use Rattle.encoding.specs.SignedRoundTrip.{fits-i16, fits-i32}
use Rattle.survey_roundtrip.specs.Layouts.{Writable}
use Rattle.survey_roundtrip.specs.Fields.{Fitting}
use Rattle.survey_roundtrip.specs.ReadBack.{reader-agrees}
use Rattle.survey_roundtrip.specs.Former.{survey-former}
use Rattle.survey_roundtrip.specs.Planned.{figures-link, figures-many}

module _ (s : List ℕ) (bytes : OfBytes s) where
  -- the figures of each link fit the bytes that they were read from
  pub figures-fit : (l : Layout) (i : ℕ) → i < length (figures_in l s).links → Fitting (get_or (figures_in l s).links i no_link)
  figures-fit l i h =
      let at = link_start l i in
      let short = fits-i16 s bytes.each in
      rw (figures-link l s i (omega (arith, figures-many l s)))
      (record { sum = fits-i32 s bytes.each (at + 4); c1 = short (at + 8 + 2 * 0); c2 = short (at + 8 + 2 * 1) })

  -- the writer declines none of them
  pub figures-legal : Writable (layout_of s) → checked_of s ≡ no_refusal → figures_checked (figures_of s) ≡ no_refusal
  figures-legal w e =
      let l = layout_of s in
      sym (reader-agrees l w (figures_of s) (λ _. record { each = λ i h _. figures-fit l i h }))
      ∙ ap checked_of (survey-former s l w (accepted-records s e) bytes)
      ∙ e
