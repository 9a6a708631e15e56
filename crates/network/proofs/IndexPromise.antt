-- What callers rely on in an index and in a lookup. The contract of building has `IndexPromised`, that of a lookup `LookupPromised`.
use Rattle.std.specs.Prelude.{◌≡◌, ℕ, pos, get_or, length}
use Rattle.std.proofs.Common.{ap, arith}
use Rattle.std.specs.Int.Signed.{mag}
use Rattle.network.proofs.CheckedLaws.{refused-once}
use Rattle.network.specs.Calls.{Reply}
use Rattle.network.specs.Indexing.{says_found}
use Rattle.network.specs.Checked.{Found}
use Rattle.std.specs.Prelude.{Ok, Err}

-- `says_found` is one-to-one: no two cases of the enum say the same
pub found-once : (a b : Found) → says_found a ≡ says_found b → a ≡ b
unfolding says_found
found-once (Ok r) (Ok q) e = ap Ok (ap (λ (a : Reply). mag (get_or a.values 0 (pos 0))) e)
found-once (Err r) (Err q) e =
    refused-once r q (ap (λ (a : Reply). a.number) e) (ap (λ (a : Reply). a.place) e)
found-once (Ok r) (Err q) e = let z : ◌≡◌ {A = ℕ} 1 0 = ap (λ (a : Reply). length a.values) e in absurd (omega arith)
found-once (Err r) (Ok q) e = let z : ◌≡◌ {A = ℕ} 0 1 = ap (λ (a : Reply). length a.values) e in absurd (omega arith)
