-- What was written as bytes is read back, and what was read from bytes is written as those bytes.
use Rattle.std.specs.Prelude.{◌≡◌, List, [], ◌∷◌, ◌++◌, ℕ, ◌+◌, ◌*◌, ◌/◌, ◌%◌, ◌<◌}
use Rattle.std.proofs.Common.{ap, ap₂, ◌∙◌, arith}
use Rattle.network.specs.Bytes.{little_endian, u16_at, u32_at}

-- a number of two bytes
pub u16-bytes : (n : ℕ) → n < 65536 → u16_at (little_endian 2 n) 0 ≡ n
u16-bytes n h = omega arith

-- a number of four bytes
pub u32-bytes : (n : ℕ) → n < 4294967296 → u32_at (little_endian 4 n) 0 ≡ n
u32-bytes n h = omega arith

-- two bytes are those of their number
pub bytes-u16 : (a b : ℕ) → a < 256 → b < 256 → little_endian 2 (a + b * 256) ≡ a ∷ b ∷ []
bytes-u16 a b h k =
    let quotient : (a + b * 256) / 256 ≡ b = omega arith in
    let low : (a + b * 256) % 256 ≡ a = omega (arith, quotient) in
    let high : (a + b * 256) / 256 % 256 ≡ b = ap (λ (x : ℕ). x % 256) quotient ∙ omega arith in
    ap₂ (λ (x y : ℕ). x ∷ y ∷ []) low high

-- four bytes are those of theirs, which is that of two numbers of two bytes
pub bytes-u32 : (u v : ℕ) → u < 65536 → v < 65536 → little_endian 4 (u + v * 65536) ≡ little_endian 2 u ++ little_endian 2 v
bytes-u32 u v h k =
    let once : (u + v * 65536) / 256 ≡ u / 256 + v * 256 = omega arith in
    let twice : (u + v * 65536) / 256 / 256 ≡ v = ap (λ (x : ℕ). x / 256) once ∙ omega arith in
    let first : (u + v * 65536) % 256 ≡ u % 256 = omega arith in
    let second : (u + v * 65536) / 256 % 256 ≡ u / 256 % 256 = ap (λ (x : ℕ). x % 256) once ∙ omega arith in
    ap₂ (λ (a b : List ℕ). a ++ b) (ap₂ (λ (x y : ℕ). x ∷ y ∷ []) first second) (ap (little_endian 2) twice)
