-- Numbers of two bytes that were written one after the other are read back.
use mathlib.Core.List.Memᴰ.{head as here}
use mathlib.Core.List.Memᴰ.{tail as there}
use Rattle.std.specs.Prelude.{List, [], ◌∷◌, ◌++◌, map, ◌≡◌, refl, ℕ, zero, suc, ◌+◌, ◌*◌, ◌≤◌, drop, length, take}
use Rattle.std.proofs.Common.{sym, ap, ap₂, ◌∙◌, arith, drop-cons}
use Rattle.network.specs.Bytes.{byte_at, little_endian}
use Rattle.network.specs.PlanList.{join}
use Rattle.network.specs.Indexing.{entries_from}
use Rattle.encoding.specs.RoundTrip.{bytes-u16}
use Rattle.index_keys.specs.Order.{AllBytes}
use Rattle.index_lookup.specs.Entries.{AllBelow}

-- entries behind two bytes
entries-behind : (n at a b : ℕ) (bs : List ℕ) → entries_from n (suc (suc at)) (a ∷ b ∷ bs) ≡ entries_from n at bs
unfolding entries_from
entries-behind zero at a b bs = refl
entries-behind (suc n) at a b bs =
    let next : suc (suc at) + 1 ≡ suc (suc (at + 1)) = omega arith in
    ap₂ (λ (x : ℕ) (l : List ℕ). x ∷ l)
    (ap (λ (k : ℕ). byte_at bs at + byte_at (a ∷ b ∷ bs) k * 256) next)
    (entries-behind n (suc (suc at)) a b bs)

-- the entries at the front of a buffer where numbers of two bytes were written
pub entries-held : (ns rest : List ℕ) → AllBelow 65536 ns → entries_from (length ns) 0 (join (map (little_endian 2) ns) ++ rest) ≡ ns
unfolding entries_from
entries-held [] rest h = refl
entries-held (x ∷ ns) rest h =
    let small = h.below x (here refl) in
    ap₂ (λ (y : ℕ) (l : List ℕ). y ∷ l)
    (omega arith)
    (entries-behind (length ns) 0 _ _ (join (map (little_endian 2) ns) ++ rest) ∙ entries-held ns rest (record { below = λ y m. h.below y (there m) }))

-- the bytes of numbers that were read are the bytes that they were read from
pub entries-bytes : (n at : ℕ) (bs : List ℕ) → AllBytes bs → at + n * 2 ≤ length bs →
    join (map (little_endian 2) (entries_from n at bs)) ≡ take (n * 2) (drop at bs)
unfolding entries_from
entries-bytes zero at bs known h = refl
entries-bytes (suc n) at bs known h =
    let one = drop-cons bs at 0 (omega arith) in
    let two = drop-cons bs (suc at) 0 (omega arith) in
    let size : suc n * 2 ≡ suc (suc (n * 2)) = omega arith in
    let next : at + 1 ≡ suc at = omega arith in
    ap₂ (λ (b r : List ℕ). b ++ r) (bytes-u16 (byte_at bs at) (byte_at bs (at + 1)) (known at).fits (known (at + 1)).fits)
    (entries-bytes n (suc (suc at)) bs known (omega arith))
    ∙ ap (λ (k : ℕ). byte_at bs at ∷ byte_at bs k ∷ take (n * 2) (drop (suc (suc at)) bs)) next
    ∙ sym (ap (λ (k : ℕ). take k (drop at bs)) size ∙ ap (take (suc (suc (n * 2)))) (one ∙ ap (λ (l : List ℕ). byte_at bs at ∷ l) two))
