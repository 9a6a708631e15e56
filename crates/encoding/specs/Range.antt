-- What bits mean at the ends and in the middle of their range.
use Rattle.std.specs.Prelude.{true, ◌≡◌, refl, ℕ, suc, ◌-◌, ltb, negsuc, pos}
use Rattle.std.proofs.Common.{arith, le-leb, ltb-false, ltb-true}
use Rattle.std.specs.Int.Signed.{le_z}
use Rattle.std.specs.Int.{w16, w32}
use Rattle.order.specs.Test.{by-test}
use Rattle.network.specs.Bytes.{signed}

-- sixteen bits mean -32,768, -1, 0 and 32,767, exactly
pub signed16-exact : (signed w16 32768 ≡ negsuc 32767) × (signed w16 65535 ≡ negsuc 0) × (signed w16 0 ≡ pos 0) × (signed w16 32767 ≡ pos 32767)
unfolding signed
signed16-exact = (refl, refl, refl, refl)

-- 32 bits mean -2,147,483,648, -1, 0 and 2,147,483,647, exactly
pub signed32-exact : (signed w32 0x80000000 ≡ negsuc 2_147_483_647) × (signed w32 0xFFFFFFFF ≡ negsuc 0) × (signed w32 0 ≡ pos 0)
    × (signed w32 0x7FFFFFFF ≡ pos 2_147_483_647)
unfolding signed
signed32-exact = (refl, refl, refl, refl)

-- 32 bits mean nothing below the first of these
pub signed32-least : (u : ℕ) → le_z (negsuc 2_147_483_647) (signed w32 u) ≡ true
unfolding signed
signed32-least u =
    by-test (ltb u 0x80000000) (λ e. rw e refl) (λ e. rw e (le-leb (0x1_0000_0000 - suc u) 2_147_483_647 (omega (arith, ltb-false u 0x80000000 e))))

-- and nothing above the last
pub signed32-most : (u : ℕ) → le_z (signed w32 u) (pos 2_147_483_647) ≡ true
unfolding signed
signed32-most u =
    by-test (ltb u 0x80000000) (λ e. rw e (le-leb u 2_147_483_647 (omega (arith, ltb-true u 0x80000000 e)))) (λ e. rw e refl)
