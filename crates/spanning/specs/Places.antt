-- The entries of a list whose places pass a test, and the first place that does.
use Rattle.std.specs.Prelude.{Bool, cond, not, ◌&&◌, eqb, ltb, length, get_or}
use mathlib.Core.List.{List, [], ◌∷◌}
use Prim.Native.Nat.{ℕ, zero, suc, ◌-◌}

module _ {A : Type 0} where
  -- the entries of a list whose places, counted from k on, pass a test
  unfoldable pub at_places : (ℕ → Bool) → ℕ → List A → List A
  at_places p k [] = []
  at_places p k (x ∷ l) = let rest = at_places p (suc k) l in cond (p k) (x ∷ rest) rest

-- the first of the n places from k on that passes a test, or the place behind them
unfoldable pub first_place : (ℕ → Bool) → ℕ → ℕ → ℕ
first_place p k zero = k
first_place p k (suc n) = let later = first_place p (suc k) n in cond (p k) k later

-- a place other than i
abbrev pub other : ℕ → ℕ → Bool
other i k = not (eqb k i)

-- a place other than i and j
abbrev pub other_two : ℕ → ℕ → ℕ → Bool
other_two i j k = not (eqb k i) && not (eqb k j)

-- what the entry at place i weighs, 0 where there is none
unfoldable pub weight_at : (ℕ → ℕ) → List ℕ → ℕ → ℕ
weight_at w l i = cond (ltb i (length l)) (w (get_or l i 0)) 0

-- ---- counted from the next place on

-- a loop over n places that has come to place k
unfoldable pub place_from : (ℕ → Bool) → ℕ → ℕ → ℕ
place_from p n k = first_place p k (n - k)
