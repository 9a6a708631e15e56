-- Document 01, "Bytes": numbers of several bytes, low byte first, two's complement, and marks.
use Rattle.std.specs.Prelude.{Bool, ◌&&◌, List, [], ◌∷◌, ℕ, suc, ◌+◌, ◌*◌, ◌/◌, ◌%◌, zero, eqb, ℤ, get_or}
use Rattle.std.specs.Int.{Width, w16, w32}
use Rattle.std.proofs.Common.{of_z, to_z}

-- the byte at an index; 0 past the end
abbrev pub byte_at : List ℕ → ℕ → ℕ
byte_at bs i = get_or bs i 0

-- the number of two bytes
abbrev pub u16_at : List ℕ → ℕ → ℕ
u16_at bs i = byte_at bs i + byte_at bs (i + 1) * 256

-- the number of three bytes
abbrev pub u24_at : List ℕ → ℕ → ℕ
u24_at bs i = u16_at bs i + byte_at bs (i + 2) * 65536

-- the number of four bytes
abbrev pub u32_at : List ℕ → ℕ → ℕ
u32_at bs i = u16_at bs i + u16_at bs (i + 2) * 65536

-- the number that the bits u of a width mean in two's complement: u in the lower half of the range, and in the upper half u less the size of the
-- range, which is 65,536 for 16 bits
unfoldable pub signed : Width → ℕ → ℤ
signed w u = to_z w u

-- the signed number of two bytes
abbrev pub i16_at : List ℕ → ℕ → ℤ
i16_at bs i = signed w16 (u16_at bs i)

-- the signed number of four bytes
abbrev pub i32_at : List ℕ → ℕ → ℤ
i32_at bs i = signed w32 (u32_at bs i)

-- the bits of a width that mean z in two's complement
unfoldable pub bits_of : Width → ℤ → ℕ
bits_of w z = of_z w z

-- the k low bytes of a number, low byte first
abbrev pub little_endian : ℕ → ℕ → List ℕ
little_endian zero n = []
little_endian (suc k) n = n % 256 ∷ little_endian k (n / 256)

-- the mark at an index is this one, exactly
abbrev pub mark_at : List ℕ → ℕ → List ℕ → Bool
mark_at bs i mark = eqb (byte_at bs i) (byte_at mark 0) && eqb (byte_at bs (i + 1)) (byte_at mark 1)
