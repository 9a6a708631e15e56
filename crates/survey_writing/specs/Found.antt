-- The layout of a kind that the writer knows, found in its table.
use Rattle.std.specs.Prelude.{Bool, true, false, cond, not, ◌≡◌, refl, ℕ, Option, Some, None, MatchOption}
use Rattle.std.specs.List.{find}
use Rattle.std.specs.Option.{unwrap_or}
use Rattle.std.proofs.Common.{ap}
use Rattle.network.specs.Survey.{plain, with_count}
use Rattle.network.specs.Writing.{is_of_kind, layout_for, unknown_kind, writable}
use Rattle.network.specs.Survey.{row_where}
use Rattle.network.specs.declared.Layout.{Layout}
use Rattle.survey_roundtrip.specs.Layouts.{Writable, counted-writable, plain-writable}

-- a layout of the kind, or none where the kind is not known
abbrev pub Found : ℕ → Option Layout → Type 0
Found kind o = MatchOption o (unknown_kind kind ≡ true) (λ l. (l ≡ layout_for kind) × Writable l × (unknown_kind kind ≡ false))

pub kind-found : (kind : ℕ) → Found kind (find (is_of_kind kind) writable)
unfolding unknown_kind layout_for row_where
kind-found kind = pick (is_of_kind kind plain) refl (is_of_kind kind with_count) refl
  where
    pick : (a : Bool) → is_of_kind kind plain ≡ a → (b : Bool) → is_of_kind kind with_count ≡ b
        → MatchOption (cond a (Some plain) (cond b (Some with_count) None)) (not (is_of_kind kind (cond a plain (cond b with_count plain))) ≡ true)
        (λ l. (l ≡ cond a plain (cond b with_count plain)) × Writable l × (not (is_of_kind kind (cond a plain (cond b with_count plain))) ≡ false))
    pick true e b f = (refl, plain-writable, ap not e)
    pick false e true f = (refl, counted-writable, ap not f)
    pick false e false f = ap not e

-- and the first of them in the place of none
pub kind-laid : (kind : ℕ) → (unwrap_or (find (is_of_kind kind) writable) plain ≡ layout_for kind) × Writable (unwrap_or (find (is_of_kind kind) writable) plain)
unfolding layout_for row_where
kind-laid kind = pick (is_of_kind kind plain) (is_of_kind kind with_count)
  where
    pick : (a b : Bool) → let l = unwrap_or (cond a (Some plain) (cond b (Some with_count) None)) plain in
        (l ≡ cond a plain (cond b with_count plain)) × Writable l
    pick true b = (refl, plain-writable)
    pick false true = (refl, counted-writable)
    pick false false = (refl, plain-writable)
