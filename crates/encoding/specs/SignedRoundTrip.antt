-- What was written as bytes is read back, and what was read from bytes is written as those bytes, for signed numbers.
use Rattle.std.specs.Prelude.{◌≡◌, ℕ, ◌+◌, ◌<◌, ℤ}
use Rattle.std.proofs.Math.Path.{ap, ap₂}
use Rattle.std.proofs.Common.{◌∙◌}
use mathlib.Core.List.{List, [], ◌∷◌, ◌++◌}
use native.Mathlib.Omega.{arith}
use mir.Syntax.{w16, w32}
use mir.Val.{Fits, SFits}
use mir.ValLaws.{of_z_fits, of_z-to_z, to_z-Fits, to_z-of_z}
use Rattle.network.specs.Bytes.{bits_of, byte_at, i16_at, i32_at, little_endian, signed, u16_at, u32_at}
use Rattle.encoding.specs.RoundTrip.{bytes-u16, bytes-u32, u16-bytes, u32-bytes}

-- a signed number of two bytes
pub i16-bytes : (z : ℤ) → SFits w16 z → i16_at (little_endian 2 (bits_of w16 z)) 0 ≡ z
unfolding signed bits_of
i16-bytes z f = ap (signed w16) (u16-bytes (bits_of w16 z) (of_z_fits w16 z f).fits) ∙ to_z-of_z w16 z f

-- a signed number of four bytes
pub i32-bytes : (z : ℤ) → SFits w32 z → i32_at (little_endian 4 (bits_of w32 z)) 0 ≡ z
unfolding signed bits_of
i32-bytes z f = ap (signed w32) (u32-bytes (bits_of w32 z) (of_z_fits w32 z f).fits) ∙ to_z-of_z w32 z f

module _ (s : List ℕ) (known : (i : ℕ) → byte_at s i < 256) where
  -- two bytes are a number below 65,536
  pub u16-below : (at : ℕ) → u16_at s at < 65536
  u16-below at = let a = known at in let b = known (at + 1) in omega arith

  two : (at : ℕ) → little_endian 2 (u16_at s at) ≡ byte_at s at ∷ byte_at s (at + 1) ∷ []
  two at = bytes-u16 (byte_at s at) (byte_at s (at + 1)) (known at) (known (at + 1))

  -- two bytes are those of their signed number
  pub bytes-i16 : (at : ℕ) → little_endian 2 (bits_of w16 (i16_at s at)) ≡ byte_at s at ∷ byte_at s (at + 1) ∷ []
  unfolding signed bits_of
  bytes-i16 at = ap (little_endian 2) (of_z-to_z w16 (u16_at s at) (record { fits = u16-below at })) ∙ two at

  -- four bytes are those of theirs
  pub bytes-i32 : (at : ℕ)
      → little_endian 4 (bits_of w32 (i32_at s at)) ≡ byte_at s at ∷ byte_at s (at + 1) ∷ byte_at s (at + 2) ∷ byte_at s (at + 2 + 1) ∷ []
  unfolding signed bits_of
  bytes-i32 at =
      let low = u16-below at in
      let high = u16-below (at + 2) in
      let fit : Fits w32 (u32_at s at) = record { fits = omega arith } in
      ap (little_endian 4) (of_z-to_z w32 (u32_at s at) fit)
      ∙ bytes-u32 (u16_at s at) (u16_at s (at + 2)) low high
      ∙ ap₂ (λ (a b : List ℕ). a ++ b) (two at) (two (at + 2))

  -- and the signed numbers fit the bytes that they were read from
  pub fits-i16 : (at : ℕ) → SFits w16 (i16_at s at)
  unfolding signed
  fits-i16 at = to_z-Fits w16 (u16_at s at) (record { fits = u16-below at })

  pub fits-i32 : (at : ℕ) → SFits w32 (i32_at s at)
  unfolding signed
  fits-i32 at = let low = u16-below at in let high = u16-below (at + 2) in to_z-Fits w32 (u32_at s at) (record { fits = omega arith })
