-- The patterns whose links may be exceptions.
use Rattle.std.specs.Prelude.{ℕ, ◌<◌, Bool, false, ◌&&◌, List, [], ◌∷◌, ◌≡◌, get_or, length}
use Rattle.std.proofs.Common.{le_refl}
use Rattle.kmax.specs.Digits.{admits, marked}
use Rattle.network.specs.Capacities.{patterns_held}
use Rattle.network.specs.Column.{column}
use Rattle.network.proofs.Column.{column-at, column-length}

-- for each pattern, whether links of it may be exceptions
unfoldable pub fit_of : List ℕ → List Bool
fit_of ks = column patterns_held false (λ x. marked x && admits ks (x ∷ [])) patterns_held

pub fit-size : (ks : List ℕ) → length (fit_of ks) ≡ patterns_held
unfolding fit_of
fit-size ks = column-length patterns_held false (λ x. marked x && admits ks (x ∷ [])) patterns_held

pub fit_at : (ks : List ℕ) (x : ℕ) → x < patterns_held → get_or (fit_of ks) x false ≡ marked x && admits ks (x ∷ [])
unfolding fit_of
fit_at ks x h = column-at patterns_held false (λ x. marked x && admits ks (x ∷ [])) patterns_held x h (le_refl patterns_held) false
