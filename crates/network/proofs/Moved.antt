-- The same bytes in another place: the numbers and marks that are read from them.
use Rattle.std.specs.Prelude.{ℕ, ◌+◌, ◌≡◌, List}
use Rattle.std.proofs.Common.{add_assoc, add-zero}
use Rattle.network.specs.Bytes.{byte_at, mark_at, u16_at, u32_at}
use Rattle.network.specs.Moved.{Moved}

module _ {s s' : List ℕ} {at at' : ℕ} (m : Moved s at s' at') where
  pub moved_on : (j : ℕ) → Moved s (at + j) s' (at' + j)
  moved_on j = record { each = λ k. rw (add_assoc at' j k, add_assoc at j k) (m.each (j + k)) }

  moved-byte : byte_at s' at' ≡ byte_at s at
  moved-byte = rw (add-zero at', add-zero at) at (m.each 0)

  pub moved-u16 : u16_at s' at' ≡ u16_at s at
  moved-u16 = rw (moved-byte, m.each 1)

  pub moved-mark : (mark : List ℕ) → mark_at s' at' mark ≡ mark_at s at mark
  moved-mark mark = rw (moved-byte, m.each 1)

pub moved-u32 : {s s' : List ℕ} {at at' : ℕ} → Moved s at s' at' → u32_at s' at' ≡ u32_at s at
moved-u32 m = rw (moved-u16 m, moved-u16 (moved_on m 2))
