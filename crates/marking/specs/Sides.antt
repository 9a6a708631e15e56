-- The sides of a box from strides and counts, and that the box lies inside the marks.
use Rattle.std.specs.Prelude.{Bool, List, [], ◌∷◌, map, ◌≡◌, refl, ℕ, zero, suc, ◌+◌, ◌*◌, ◌-◌, ◌≤◌, ◌<◌, drop, get_or, length, take}
use Rattle.std.proofs.Common.{sym, ap, mul-suc, mul-zero, arith, length-drop, take_all}
use Rattle.marking.specs.Paint.{paint, rows-before, side, sweep}
use Rattle.marking.specs.declared.mark.Side.{Side}

-- the strides of sides, and the counts
abbrev pub strides : List Side → List ℕ
strides rs = map (λ r. r.stride) rs

abbrev pub counts : List Side → List ℕ
counts rs = map (λ r. r.count) rs

-- the sides with these strides and counts
unfoldable pub sides_with : List ℕ → List ℕ → List Side
sides_with [] cs = []
sides_with (s ∷ ss) [] = []
sides_with (s ∷ ss) (c ∷ cs) = side s c ∷ sides_with ss cs

-- have them
pub strides-with : (ss cs : List ℕ) → length ss ≡ length cs → strides (sides_with ss cs) ≡ ss
unfolding sides_with
strides-with [] cs h = refl
strides-with (s ∷ ss) [] h = absurd (omega arith)
strides-with (s ∷ ss) (c ∷ cs) h = ap (λ (l : List ℕ). s ∷ l) (strides-with ss cs (omega arith))

pub counts-with : (ss cs : List ℕ) → length ss ≡ length cs → counts (sides_with ss cs) ≡ cs
unfolding sides_with
counts-with [] [] h = refl
counts-with [] (c ∷ cs) h = absurd (omega arith)
counts-with (s ∷ ss) [] h = absurd (omega arith)
counts-with (s ∷ ss) (c ∷ cs) h = ap (λ (l : List ℕ). c ∷ l) (counts-with ss cs (omega arith))

-- how far the last position of a box is behind its first
unfoldable pub span : List Side → ℕ
span [] = 0
span (r ∷ rs) = r.stride * (r.count - 1) + span rs

-- a box whose first position is `at` lies inside `size` marks, and the positions of its last side are neighbours
pub record Inside (rs : List Side) (at size : ℕ) : Type 0 where
  pub last : at + span rs < size
  pub short : (k : ℕ) → k < length rs → get_or (strides rs) k 0 ≤ size
  pub dense : (k : ℕ) → suc k ≡ length rs → get_or (strides rs) k 0 ≡ 1

-- room for all turns of the first side, where its last one has room
room-start : (at s c rest size : ℕ) → at + (s * (c - 1) + rest) < size → at + s * c + rest < size + s
room-start at s zero rest size h = omega (arith, mul-zero s)
room-start at s (suc c) rest size h =
    let e : suc c - 1 ≡ c = omega arith in
    let less : at + (s * c + rest) < size = rw e at h in
    omega (arith, mul-suc s c)

-- what stands for a side that there is not
abbrev pub no_side : Side
no_side = side 0 0

-- ---- one side, a row; two, rows: there is room for them, and they are the box

pub one_side : {rs : List Side} {at size : ℕ} → Inside rs at size → 1 ≤ length rs → length rs < 2
    → (at + (get_or rs 0 no_side).count ≤ size) × ((ms : List Bool) → paint (side 1 (get_or rs 0 no_side).count ∷ []) at ms ≡ paint rs at ms)
unfolding span
one_side {rs = []} i h g = absurd (omega arith)
one_side {rs = r ∷ []} {at = at} {size = size} i h g =
    let e : r.stride ≡ 1 = i.dense 0 refl in
    let l : at + (r.stride * (r.count - 1) + 0) < size = i.last in
    let l₁ : at + (1 * (r.count - 1) + 0) < size = rw e at l in
    (omega arith, λ ms. ap (λ (k : ℕ). sweep (paint []) k r.count at ms) (sym e))
one_side {rs = r ∷ q ∷ rs} i h g = absurd (omega arith)

pub two_sides : {rs : List Side} {at size : ℕ} → Inside rs at size → 2 ≤ length rs → length rs < 3
    → let rows = get_or rs 0 no_side in
    let n = (get_or rs 1 no_side).count in
    (rows.stride ≤ size) × (at + rows.stride * rows.count + n ≤ size + rows.stride) × ((ms : List Bool) → paint (rows ∷ side 1 n ∷ []) at ms ≡ paint rs at ms)
unfolding span
two_sides {rs = []} i h g = absurd (omega arith)
two_sides {rs = r ∷ []} i h g = absurd (omega arith)
two_sides {rs = r ∷ q ∷ []} {at = at} {size = size} i h g =
    let e : q.stride ≡ 1 = i.dense 1 refl in
    let l : at + (r.stride * (r.count - 1) + (q.stride * (q.count - 1) + 0)) < size = i.last in
    let l₁ : at + (r.stride * (r.count - 1) + (1 * (q.count - 1) + 0)) < size = rw e at l in
    let room = room-start at r.stride r.count (1 * (q.count - 1) + 0) size l₁ in
    (i.short 0 (omega arith), omega arith, λ ms. ap (λ (k : ℕ). sweep (paint (side k q.count ∷ [])) r.stride r.count at ms) (sym e))
two_sides {rs = r ∷ q ∷ o ∷ rs} i h g = absurd (omega arith)

-- ---- more sides: the first is swept, there is room for that, and the box of the others lies inside too

pub first-side : (rs : List Side) (at : ℕ) (ms : List Bool) → 0 < length rs
    → sweep (paint (drop 1 rs)) (get_or rs 0 no_side).stride (get_or rs 0 no_side).count at ms ≡ paint rs at ms
first-side [] at ms h = absurd (omega arith)
first-side (r ∷ rs) at ms h = refl

-- where the part at a place of the first side starts
pub part-room : {rs : List Side} {at size : ℕ} (k : ℕ) → 0 < length rs → Inside rs at size → k < (get_or rs 0 no_side).count
    → at + k * (get_or rs 0 no_side).stride + span (drop 1 rs) < size
unfolding span
part-room {rs = []} k h i g = absurd (omega arith)
part-room {rs = r ∷ rs} {at = at} {size = size} k h i g =
    omega (arith, room-start at r.stride r.count (span rs) size i.last, rows-before r.stride k r.count g)

pub inside-part : {rs : List Side} {at size : ℕ} (to : ℕ) → 0 < length rs → Inside rs at size → to + span (drop 1 rs) < size → Inside (drop 1 rs) to size
inside-part {rs = []} to h i g = absurd (omega arith)
inside-part {rs = r ∷ rs} to h i g = record {
  last = g;
  short = λ k l. i.short (suc k) (omega arith);
  dense = λ k e. i.dense (suc k) (omega arith);
}

-- as a part of the slice
pub rest_part : (rs : List Side) → take (length rs - 1) (drop 1 rs) ≡ drop 1 rs
rest_part rs = take_all (length rs - 1) (drop 1 rs) (omega (arith, length-drop 1 rs))
