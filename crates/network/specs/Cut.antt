-- An accepted survey that writes its link count and is then cut off is refused: by 15 at the end of a record before its last, and anywhere else by 1.
use Rattle.std.specs.Prelude.{ℕ, ◌<◌, ◌≡◌, cond, List, length, take}
use Rattle.std.proofs.Math.Bool.{true}
use Rattle.network.specs.Survey.{has_count, layout_of}
use Rattle.network.specs.Refusals.{bad_length, checked_of}
use Rattle.network.specs.Checked.{Checked}
use Rattle.std.specs.Prelude.{Err}
use Rattle.network.specs.Checked.{no_refusal}
use Rattle.network.specs.declared.refusals.Rule.TheVariants.{BadLength, WrongLinkCount}
use Rattle.network.specs.declared.Layout.{Layout}

-- what a survey of a layout gets that is cut off after c bytes: 15 at the end of a record, 1 anywhere else, at place 0
abbrev pub cut_refusal : Layout → ℕ → Checked
cut_refusal l c = Err (record { rule = cond (bad_length l c) BadLength WrongLinkCount; place = 0 })

-- ---- what callers rely on

-- What a call on bytes that replied with this number and place has noticed: where an accepted survey with a link count was cut off and these bytes are
-- left of it, it has declined them.
pub record CutNoticed (bytes : List ℕ) (number place : ℕ) : Type 0 where
  pub declined : (s : List ℕ) → checked_of s ≡ no_refusal → has_count (layout_of s) ≡ true → (c : ℕ) → c < length s → bytes ≡ take c s
      → (number ≡ cond (bad_length (layout_of s) c) 1 15) × (place ≡ 0)
