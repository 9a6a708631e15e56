-- Yard records that say more than n, p, k1 and k2: with the right link count a survey is planned as the same survey without it, and with no station at rest
-- as the same survey without the bytes for them.
use Rattle.std.specs.Prelude.{ℕ, ◌/◌, List, [], ◌∷◌, ◌++◌}
use Rattle.std.proofs.Math.ListN.{length}
use Rattle.network.specs.Bytes.{little_endian}
use Rattle.network.specs.Survey.{link_size, narrow_slots, plain, rest_size}
use Rattle.network.specs.Survey.{with_count, with_rest}

-- the yard record of mark 59 44 with these fields
abbrev pub plain_yard : ℕ → ℕ → ℕ → ℕ → List ℕ
plain_yard n p k1 k2 = plain.yard.mark ++ (n ∷ p ∷ k1 ∷ k2 ∷ [])

-- the one of mark 59 45, with its link count
abbrev pub counted_yard : ℕ → ℕ → ℕ → ℕ → ℕ → List ℕ
counted_yard n p k1 k2 count = with_count.yard.mark ++ (n ∷ p ∷ k1 ∷ k2 ∷ count ∷ [])

-- the one of mark 59 46, with the bits of the stations at rest
abbrev pub rested_yard : ℕ → ℕ → ℕ → ℕ → ℕ → ℕ → List ℕ
rested_yard n p k1 k2 count rest = with_rest.yard.mark ++ ((n ∷ p ∷ k1 ∷ k2 ∷ count ∷ []) ++ little_endian rest_size rest)

-- the link count of the bytes of link records, which is a byte wherever number 4 does not come first
abbrev pub right_count : List ℕ → ℕ
right_count links = length links / link_size narrow_slots
