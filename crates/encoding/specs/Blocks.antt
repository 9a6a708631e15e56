-- Bytes that hold records of one size, one after the other.
use Rattle.std.specs.Prelude.{◌≡◌, refl, List, [], ◌∷◌, ◌++◌, ℕ, zero, suc, ◌+◌, ◌*◌, ◌-◌, ◌≤◌, ◌<◌, length, take, drop, get_or}
use Rattle.std.proofs.Common.{sym, ap, ap₂, ◌∙◌, append_assoc, arith, suc-mul, zero-mul, zero-add, suc-add, add-mul, mul-le-mul_right, add-one, length-append, length-drop, length-take-le, take_at, drop_at, take-take, drop-drop, take-add}
use Rattle.std.proofs.Math.Path.{subst}
use mathlib.Core.List.Memᴰ.{head as here}
use mathlib.Core.List.Memᴰ.{tail as there}
use Rattle.std.proofs.Math.Nat.{one-mul}
use Rattle.std.proofs.Math.Seq.{take-nil}
use Rattle.order.specs.Lists.{◌∈◌}
use Rattle.network.specs.PlanList.{join}
use Rattle.buffers.specs.Overwrite.{overwrite, length-overwrite, take-overwrite, drop-overwrite, written}

-- the first n records of z bytes
unfoldable pub blocks : ℕ → ℕ → List ℕ → List (List ℕ)
blocks z zero bs = []
blocks z (suc n) bs = take z bs ∷ blocks z n (drop z bs)

-- no records
pub blocks-none : (z n : ℕ) (bs : List ℕ) → n ≡ 0 → blocks z n bs ≡ []
unfolding blocks
blocks-none z n bs e = rw e

-- how many they are
pub length-blocks : (z n : ℕ) (bs : List ℕ) → length (blocks z n bs) ≡ n
unfolding blocks
length-blocks z zero bs = refl
length-blocks z (suc n) bs = ap suc (length-blocks z n (drop z bs))

-- the record at index `at` and those after it
pub blocks-turn : (z left at : ℕ) (bs : List ℕ) → 0 < left → blocks z left (drop at bs) ≡ take z (drop at bs) ∷ blocks z (left - 1) (drop (at + z) bs)
unfolding blocks
blocks-turn z zero at bs h = absurd (omega arith)
blocks-turn z (suc n) at bs h =
    let e : n ≡ suc n - 1 = omega arith in
    ap₂ (λ (k : ℕ) (l : List ℕ). take z (drop at bs) ∷ blocks z k l) e (drop-drop z at bs)

-- the bytes of n records are those of one and of the others
pub mul-step : (n z : ℕ) → 0 < n → n * z ≡ z + (n - 1) * z
mul-step zero z h = absurd (omega arith)
mul-step (suc n) z h = let e : n ≡ suc n - 1 = omega arith in let s = suc-mul n z in rw (← e) (omega arith)

-- the first m records and the n after them
blocks-split : (z m n : ℕ) (bs : List ℕ) → blocks z (m + n) bs ≡ blocks z m bs ++ blocks z n (drop (m * z) bs)
unfolding blocks
blocks-split z zero n bs = rw (zero-add n, zero-mul z)
blocks-split z (suc m) n bs =
    let e : z + m * z ≡ suc m * z = let s = suc-mul m z in omega arith in
    rw (suc-add m n) (ap (λ (l : List (List ℕ)). take z bs ∷ l)
    (blocks-split z m n (drop z bs)
    ∙ ap (λ (l : List ℕ). blocks z m (drop z bs) ++ blocks z n l) (drop-drop (m * z) z bs ∙ ap (λ (k : ℕ). drop k bs) e)))

-- a part of a front
drop-take : (n m : ℕ) (l : List ℕ) → drop n (take (n + m) l) ≡ take m (drop n l)
drop-take zero m l = rw (zero-add m)
drop-take (suc n) m [] = rw (take-nil (suc n + m), take-nil m)
drop-take (suc n) m (x ∷ l) = rw (suc-add n m) (drop-take n m l)

-- n records lie in the first n * z bytes
blocks-take : (z n : ℕ) (bs : List ℕ) → blocks z n (take (n * z) bs) ≡ blocks z n bs
unfolding blocks
blocks-take z zero bs = refl
blocks-take z (suc n) bs =
    let e : suc n * z ≡ z + n * z = let s = suc-mul n z in omega arith in
    rw e (ap₂ (λ (b : List ℕ) (l : List (List ℕ)). b ∷ l)
    (take-take z (z + n * z) bs (omega arith))
    (ap (blocks z n) (drop-take z (n * z) bs) ∙ blocks-take z n (drop z bs)))

-- bytes that are alike that far hold the same records
blocks-agree : (z n : ℕ) (a b : List ℕ) → take (n * z) a ≡ take (n * z) b → blocks z n a ≡ blocks z n b
blocks-agree z n a b e = sym (blocks-take z n a) ∙ ap (blocks z n) e ∙ blocks-take z n b

-- the first m of n records, and the others
module _ (z m n : ℕ) (bs : List ℕ) (h : m ≤ n) where
  in_two : blocks z n bs ≡ blocks z m bs ++ blocks z (n - m) (drop (m * z) bs)
  in_two = let e : n ≡ m + (n - m) = omega arith in ap (λ (k : ℕ). blocks z k bs) e ∙ blocks-split z m (n - m) bs

  pub take-blocks : take m (blocks z n bs) ≡ blocks z m bs
  take-blocks = ap (take m) in_two ∙ take_at (blocks z m bs) (blocks z (n - m) (drop (m * z) bs)) m (length-blocks z m bs)

  pub drop-blocks : drop m (blocks z n bs) ≡ blocks z (n - m) (drop (m * z) bs)
  drop-blocks = ap (drop m) in_two ∙ drop_at (blocks z m bs) (blocks z (n - m) (drop (m * z) bs)) m (length-blocks z m bs)

-- the bytes from record i on replaced by others: the first i records, and those of the others
pub blocks-behind : (z i n : ℕ) (d e : List ℕ) → i * z ≤ length d → blocks z (i + n) (take (i * z) d ++ e) ≡ blocks z i d ++ blocks z n e
blocks-behind z i n d e h =
    let l = length-take-le (i * z) d h in
    blocks-split z i n (take (i * z) d ++ e)
    ∙ ap₂ (λ (a b : List (List ℕ)). a ++ b) (blocks-agree z i (take (i * z) d ++ e) d (take_at (take (i * z) d) e (i * z) l))
    (ap (blocks z n) (drop_at (take (i * z) d) e (i * z) l))

-- m records that are written behind the first n, from a place no lower: the n + m records.
pub blocks-joined : (z : ℕ) (d : List ℕ) (from to n m : ℕ) → to ≡ n * z → to ≤ from → from + m * z ≤ length d
    → blocks z (n + m) (overwrite d to (take (m * z) (drop from d))) ≡ blocks z n d ++ blocks z m (drop from d)
blocks-joined z d from to n m at down fits =
    let x : List ℕ = take (m * z) (drop from d) in
    let l = length-drop from d in
    let lx : length x ≡ m * z = length-take-le (m * z) (drop from d) (omega arith) in
    let o : List ℕ = overwrite d to x in
    let front : blocks z n o ≡ blocks z n d =
    blocks-agree z n o d (ap (λ (k : ℕ). take k o) (sym at) ∙ take-overwrite d to x to (omega arith) (omega arith) ∙ ap (λ (k : ℕ). take k d) at) in
    let later : blocks z m (drop (n * z) o) ≡ blocks z m (drop from d) =
    blocks-agree z m (drop (n * z) o) (drop from d)
    (ap (λ (k : ℕ). take (m * z) (drop k o)) (sym at) ∙ ap (λ (k : ℕ). take k (drop to o)) (sym lx) ∙ written d to x (omega arith)) in
    blocks-split z n m o ∙ ap₂ (λ (a b : List (List ℕ)). a ++ b) front later

-- One record: the n + 1 records, and the bytes behind its old place.
module _ (z : ℕ) (d : List ℕ) (from to n : ℕ) (at : to ≡ n * z) (down : to ≤ from) (fits : from + z ≤ length d) where
  pub blocks-moved : blocks z (n + 1) (overwrite d to (take z (drop from d))) ≡ blocks z n d ++ (take z (drop from d) ∷ [])
  unfolding blocks
  blocks-moved =
      let e = one-mul z in
      subst (λ (k : ℕ). blocks z (n + 1) (overwrite d to (take k (drop from d))) ≡ blocks z n d ++ (take z (drop from d) ∷ [])) e
      (blocks-joined z d from to n 1 at down (omega arith))

  pub behind_moved : drop (from + z) (overwrite d to (take z (drop from d))) ≡ drop (from + z) d
  behind_moved =
      let l = length-drop from d in
      let m = length-take-le z (drop from d) (omega arith) in
      drop-overwrite d to (take z (drop from d)) (from + z) (omega arith) (omega arith)

-- A record put in front of n others: they are moved up by a record, and it is written in the gap.
pub blocks-inserted : (z : ℕ) (d : List ℕ) (n : ℕ) (x : List ℕ) → n * z + z ≤ length d → length x ≡ z
    → blocks z (n + 1) (overwrite (overwrite d z (take (n * z) (drop 0 d))) 0 x) ≡ x ∷ blocks z n d
unfolding blocks
blocks-inserted z d n x room size =
    let s : List ℕ = take (n * z) d in
    let ls : length s ≡ n * z = length-take-le (n * z) d (omega arith) in
    let o : List ℕ = overwrite d z s in
    let lo : length o ≡ length d = length-overwrite d z s (omega arith) in
    let o' : List ℕ = overwrite o 0 x in
    let new : take z o' ≡ x = ap (λ (k : ℕ). take k o') (sym size) ∙ written o 0 x (omega arith) in
    let later : blocks z n (drop z o') ≡ blocks z n d =
    ap (blocks z n) (drop-overwrite o 0 x z (omega arith) (omega arith))
    ∙ blocks-agree z n (drop z o) d (ap (λ (k : ℕ). take k (drop z o)) (sym ls) ∙ written d z s (omega arith)) in
    ap (λ (k : ℕ). blocks z k o') (add-one n) ∙ ap₂ (λ (b : List ℕ) (r : List (List ℕ)). b ∷ r) new later

-- where n records and one more have room, so have fewer
pub room_for : (k n z : ℕ) {l : ℕ} → (n + 1) * z ≤ l → k ≤ n → k * z + z ≤ l
room_for k n z h g =
    let e : (n + 1) * z ≡ n * z + z = ap (λ (m : ℕ). m * z) (add-one n) ∙ suc-mul n z in
    let f = mul-le-mul_right z g in
    omega arith

-- and they have room behind the first i
pub room-behind : (i n z : ℕ) {l : ℕ} → (n + 1) * z ≤ l → i ≤ n → i * z + (n - i + 1) * z ≤ l
room-behind i n z h g =
    let e : i + (n - i + 1) ≡ n + 1 = omega arith in
    let f = sym (add-mul i (n - i + 1) z) ∙ ap (λ (k : ℕ). k * z) e in
    omega arith

-- ---- records one after the other

-- the records of bytes, one after the other, are these bytes
pub join-blocks : (z n : ℕ) (bs : List ℕ) → join (blocks z n bs) ≡ take (n * z) bs
unfolding blocks
join-blocks z zero bs = rw (zero-mul z)
join-blocks z (suc n) bs =
    let m : suc n * z ≡ z + n * z = let s = suc-mul n z in omega arith in
    ap (λ (l : List ℕ). take z bs ++ l) (join-blocks z n (drop z bs)) ∙ sym (take-add z (n * z) bs) ∙ ap (λ (k : ℕ). take k bs) (sym m)

module _ (z : ℕ) where
  -- each record has z bytes
  abbrev pub Sized : List (List ℕ) → Type 0
  Sized rs = (b : List ℕ) → b ∈ rs → length b ≡ z

  -- the length of such records, one after the other
  pub length-join : (rs : List (List ℕ)) → Sized rs → length (join rs) ≡ length rs * z
  length-join [] h = sym (zero-mul z)
  length-join (b ∷ rs) h =
      let e = length-append b (join rs) in
      let f = h b (here refl) in
      let g = length-join rs (λ c m. h c (there m)) in
      let m = suc-mul (length rs) z in
      omega arith

  -- the bytes from record i on
  pub join-at : (rs : List (List ℕ)) (rest : List ℕ) → Sized rs → (i : ℕ) → i < length rs
      → drop (i * z) (join rs ++ rest) ≡ get_or rs i [] ++ (join (drop (suc i) rs) ++ rest)
  join-at [] rest h i k = absurd (omega arith)
  join-at (b ∷ rs) rest h zero k = rw (zero-mul z) (append_assoc b (join rs) rest)
  join-at (b ∷ rs) rest h (suc i) k =
      let m : suc i * z ≡ z + i * z = let s = suc-mul i z in omega arith in
      ap (λ (n : ℕ). drop n (b ++ join rs ++ rest)) m
      ∙ sym (drop-drop (i * z) z (b ++ join rs ++ rest))
      ∙ ap (drop (i * z)) (ap (drop z) (append_assoc b (join rs) rest) ∙ drop_at b (join rs ++ rest) z (h b (here refl)))
      ∙ join-at rs rest (λ c n. h c (there n)) i (omega arith)
