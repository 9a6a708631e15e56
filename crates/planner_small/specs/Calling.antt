-- The ways that the call goes: no such survey, an output that is too short, and a survey that is written. In each of them callers have what they rely on.
use Rattle.std.proofs.Math.Bool.{true, false}
use Rattle.std.specs.Prelude.{List, ◌≡◌, ℕ, ◌≤◌, ◌<◌, drop, length, take}
use Rattle.std.proofs.Math.Path.{ap}
use borrow.Author.Tests.{le-leb, le-ltb, lt-leb, lt-ltb}
use Rattle.std.proofs.Math.Dec.{leb, ltb}
use Rattle.std.proofs.Common.{take_at}
use Rattle.network.specs.Checked.{Checked, no_refusal, refuse_if, ◌or_else◌}
use Rattle.network.specs.Calls.{if_fine, status}
use Rattle.network.specs.Writing.{survey_at_front}
use Rattle.network.specs.SmallSurveys.{small_after, small_bytes, small_checked, small_status, small_survey, small_count}
use Rattle.network.specs.SmallPromise.{SmallPromised}
use Rattle.std.specs.Prelude.{Err}
use Rattle.network.specs.declared.refusals.Rule.TheVariants.{NoSuchSurvey, ShortOutput}
use Rattle.small_surveys.specs.Kind.{survey-number, survey-order, survey-size, survey-small}

module _ (q : ℕ) (output : List ℕ) where
  -- where the number is one of the surveys' and the output has room, nothing is refused
  nothing : q < small_count → small_bytes ≤ length output → small_checked q (length output) ≡ no_refusal
  unfolding small_checked refuse_if ◌or_else◌
  nothing h room =
      let some-survey : leb small_count q ≡ false = lt-leb small_count q h in
      let enough : ltb (length output) small_bytes ≡ false = le-ltb (length output) small_bytes room in
      rw (some-survey, enough)

  -- the survey then stands at the front
  made : q < small_count → small_bytes ≤ length output
      → (small_status q (length output) ≡ status no_refusal) × (take small_bytes (small_after q output) ≡ small_survey q)
  unfolding small_status small_after if_fine survey_at_front
  made h room = (
    ap status (nothing h room),
    rw (nothing h room) (take_at (small_survey q) (drop (length (small_survey q)) output) small_bytes (survey-size q h)),
  )

  -- the reply, what is left, and what callers rely on
  abbrev pub Kept : Checked → List ℕ → Type 0
  Kept r left = (r ≡ small_checked q (length output)) × ((left ≡ small_after q output) × SmallPromised q output (status r) left)

  kept : {r : Checked} {left : List ℕ} → r ≡ small_checked q (length output) → left ≡ small_after q output → Kept r left
  unfolding small_status
  kept reply leaves = (
    reply,
    (leaves, record { made = λ h room. rw (reply, leaves) (made h room); small = survey-small; once = survey-number; ordered = survey-order }),
  )

  -- no survey has the number
  pub by_number : small_count ≤ q → Kept (Err (record { rule = NoSuchSurvey; place = 0 })) output
  unfolding small_after small_checked refuse_if ◌or_else◌ if_fine
  by_number h = let e : leb small_count q ≡ true = le-leb small_count q h in kept (rw e) (rw e)

  module _ (h : q < small_count) where
    -- the output is too short
    pub by-room : length output < small_bytes → Kept (Err (record { rule = ShortOutput; place = 0 })) output
    unfolding small_after small_checked refuse_if ◌or_else◌ if_fine
    by-room g =
        let some-survey : leb small_count q ≡ false = lt-leb small_count q h in
        let short : ltb (length output) small_bytes ≡ true = lt-ltb (length output) small_bytes g in
        kept (rw (some-survey, short)) (rw (some-survey, short))

    -- the survey is written
    pub by-survey : small_bytes ≤ length output → {left : List ℕ} → left ≡ survey_at_front (small_survey q) output
        → Kept no_refusal left
    unfolding small_after if_fine
    by-survey room e = kept (rw (nothing h room)) (rw (nothing h room) e)
