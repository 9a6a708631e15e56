-- What callers rely on in a survey that is written. The contract of writing has `WritePromised`.
use Rattle.std.specs.Prelude.{List, ◌⊎◌, ◌≡◌, ℕ, ◌≤◌, ◌<◌, ltb, length, take}
use Rattle.network.specs.Bytes.{byte_at}
use Rattle.network.specs.Survey.{layout_of}
use Rattle.network.specs.Checked.{refuse_if, ◌or_else◌}
use Rattle.network.specs.Refusals.{checked_of}
use Rattle.network.specs.Calls.{status}
use Rattle.network.specs.Writing.{Figures, figures_of, kind_of, survey_at_front, survey_of}
use Rattle.network.specs.Checked.{no_refusal}
use Rattle.network.specs.declared.refusals.Rule.TheVariants.{ShortOutput}
use Rattle.network.specs.declared.refusals.Status.{Status}

-- the kinds that the writer knows
abbrev pub Known : ℕ → Type 0
Known kind = (kind ≡ 0x5944) ⊎ (kind ≡ 0x5945)

-- a survey that is accepted, has this kind of yard record, and says these figures
pub record Says (s : List ℕ) (kind : ℕ) (f : Figures) : Type 0 where
  pub accepted : checked_of s ≡ no_refusal
  pub kept : kind_of (layout_of s) ≡ kind
  pub read : figures_of s ≡ f

-- each entry is a byte
pub record OfBytes (s : List ℕ) : Type 0 where
  pub each : (i : ℕ) → byte_at s i < 256

-- what writing figures with a kind of yard record has done that replied r and left these bytes in the output
pub record WritePromised (kind : ℕ) (f : Figures) (output : List ℕ) (r : Status) (left : List ℕ) : Type 0 where
  -- a survey that was written is accepted, has the kind that was asked for and reads back as these figures
  pub read_back : r ≡ status no_refusal → Says (take (length (survey_of f kind)) left) kind f
  -- a survey that was read, of a kind that the writer knows, has its former bytes when its figures are written with its own kind
  pub former : (s : List ℕ) → OfBytes s → Says s kind f → Known kind → length s ≤ length output → (r ≡ status no_refusal) × (left ≡ survey_at_front s output)
  -- the reply is what the reader says of the survey of these figures; where that is nothing, it is by 17
  pub as_reader : Known kind → r ≡ status (checked_of (survey_of f kind) or_else refuse_if (ltb (length output) (length (survey_of f kind))) ShortOutput 0)
  -- any other kind is 2 at place 0
  pub other_kind : (Known kind → ⊥) → r ≡ record { number = 2; place = 0 }
