-- The numbers below n by rising keys: n numbers below n whose keys rise strictly are the numbers below n, sorted. For n different numbers below n are all
-- of them.
use Rattle.std.specs.Prelude.{◌≡◌, ℕ, ◌<◌}

-- ---- the numbers below n

-- numbers below n with the same key are the same
abbrev pub Telling : {K : Type 0} → (ℕ → K) → ℕ → Type 0
Telling key n = (x y : ℕ) → x < n → y < n → key x ≡ key y → x ≡ y
