-- The same bytes in another place: the numbers and marks that are read from them.
use Rattle.std.specs.Prelude.{ℕ, ◌+◌, ◌≡◌, List}
use Rattle.network.specs.Bytes.{byte_at}

-- the bytes of s from an index on stand in s' from another one on
pub record Moved (s : List ℕ) (at : ℕ) (s' : List ℕ) (at' : ℕ) : Type 0 where
  pub each : (k : ℕ) → byte_at s' (at' + k) ≡ byte_at s (at + k)
