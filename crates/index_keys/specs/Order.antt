-- THE LAWS OF KEYS: the plans of a slice of bytes stand in the index by their keys, and by their numbers where keys are equal; by the y1 in its key a
-- plan meets a value, and by the sums in their keys plans compare as by their sums.
use Rattle.std.specs.Prelude.{Bool, true, false, List, [], ◌∷◌, ◌≡◌, ltb, ℤ, pos}
use Rattle.std.proofs.Math.Path.{sym, ap, ap₂}
use Rattle.std.proofs.Common.{◌∙◌, mod-eq_of_lt, mul-le-mul_right, suc-mul}
use Prim.Native.Nat.{ℕ, suc, ◌+◌, ◌-◌, ◌*◌, ◌^◌, ◌≤◌, ◌<◌}
use Rattle.std.proofs.Math.Nat.{add-mod_right}
use native.Mathlib.Omega.{arith}
use borrow.Author.Tests.{le-leb, leb-false, leb-true, lt-leb, lt-ltb, ltb-false, ltb-true}
use Rattle.std.proofs.Math.Dec.{leb}
use Rattle.std.specs.Int.Signed.{le_z}
use mir.Syntax.{Width, w8, w16, w32}
use mir.Val.{Fits, SFits, bits, hbits}
use mir.ValLaws.{of_z_fits, pow-bits, to_z-of_z}
use Rattle.order.specs.Test.{by-test}
use Rattle.order.proofs.Test.{test_iff}
use Rattle.order.specs.Order.{dictionary_le, orderℕ, orderℤ, pair_le, tie_break}
use Rattle.network.specs.Bytes.{bits_of, byte_at, i16_at, i32_at, signed, u16_at, u32_at}
use Rattle.network.specs.Capacities.{ceilings_held}
use Rattle.network.proofs.Tabulate.{tabulate-at}
use Rattle.network.specs.Survey.{narrow_slots}
use Rattle.network.specs.PlanList.{costs_at, plan_ceiling}
use Rattle.network.specs.Fetching.{head_ceilings, head_slots, plan_start}
use Rattle.network.specs.Indexing.{index_key, meets, plan_cost, plan_costs, plan_sum, without_ceilings}
use Rattle.order.proofs.Numbers.{tie-last}
use Rattle.index_keys.specs.Key.{ceiling_bits, key_at, packed, plan_key, raised, raised16, raised32, slots-least, sum_in, y1_in}

-- each member is a byte: what a proof knows of each slice of bytes
abbrev pub AllBytes : List ℕ → Type 0
AllBytes list = (i : ℕ) → Fits w8 (byte_at list i)

-- ---- bits raised

-- two comparisons that agree
leb-iff : (a b c d : ℕ) → (a ≤ b → c ≤ d) → (c ≤ d → a ≤ b) → leb a b ≡ leb c d
leb-iff a b c d to from = test_iff (leb a b) (leb c d) (λ e. le-leb c d (to (leb-true a b e)), λ e. le-leb a b (from (leb-true c d e)))

-- bits of the lower half, and of the upper one
raised-low : (half u : ℕ) → u < half → raised half u ≡ u + half
unfolding raised
raised-low half u h = mod-eq_of_lt (omega arith)

raised-high : (half u : ℕ) → half ≤ u → u < half * 2 → raised half u ≡ u - half
unfolding raised
raised-high half u h k =
    let e : u + half ≡ u - half + 2 * half = omega arith in
    rw e (add-mod_right (u - half) (2 * half) ∙ mod-eq_of_lt (omega arith))

module _ (w : Width) where
  -- half of the range
  abbrev half : ℕ
  half = 2 ^ hbits w

  -- numbers in two's complement compare as their raised bits do
  raised-order : (u v : ℕ) → u < 2 ^ bits w → v < 2 ^ bits w → le_z (signed w u) (signed w v) ≡ leb (raised half u) (raised half v)
  unfolding signed
  raised-order u v h k =
      let double = pow-bits w in
      by-test (ltb u half)
      (λ p. let x = ltb-true u half p in
      by-test (ltb v half)
      (λ q. let y = ltb-true v half q in
      rw (p, q, raised-low half u x, raised-low half v y) (leb-iff u v (u + half) (v + half) (λ i. omega arith) (λ i. omega arith)))
      (λ q. let y = ltb-false v half q in
      rw (p, q, raised-low half u x, raised-high half v y (omega arith), lt-leb (u + half) (v - half) (omega arith))))
      (λ p. let x = ltb-false u half p in
      by-test (ltb v half)
      (λ q. let y = ltb-true v half q in
      rw (p, q, raised-high half u x (omega arith), raised-low half v y, le-leb (u - half) (v + half) (omega arith)))
      (λ q. let y = ltb-false v half q in
      rw (p, q, raised-high half u x (omega arith), raised-high half v y (omega arith))
      (leb-iff (2 ^ bits w - suc v) (2 ^ bits w - suc u) (u - half) (v - half) (λ i. omega arith) (λ i. omega arith))))

  -- and so with a number that has bits of this width
  raised-within : (u : ℕ) (z : ℤ) → u < 2 ^ bits w → SFits w z → le_z (signed w u) z ≡ leb (raised half u) (raised half (bits_of w z))
  unfolding signed bits_of
  raised-within u z h f = ap (le_z (signed w u)) (sym (to_z-of_z w z f)) ∙ raised-order u (bits_of w z) h (of_z_fits w z f).fits

-- ---- numbers as one number

-- a number times k and one below k, added: the first decides, then the second
module _ (k a c : ℕ) {b d : ℕ} (hb : b < k) (hd : d < k) (t : Bool) where
  pair-tie : tie_break (leb a c) (leb c a) (tie_break (leb b d) (leb d b) t) ≡ tie_break (leb (a * k + b) (c * k + d)) (leb (c * k + d) (a * k + b)) t
  pair-tie =
      by-test (leb a c)
      (λ p. by-test (leb c a)
      (λ q.
      let e : a ≡ c = omega (arith, leb-true a c p, leb-true c a q) in
      let to = leb-iff b d (c * k + b) (c * k + d) (λ h. omega arith) (λ h. omega arith) in
      let from = leb-iff d b (c * k + d) (c * k + b) (λ h. omega arith) (λ h. omega arith) in
      rw (e, le-leb c c (omega arith)) (λ i. tie_break (to i) (from i) t))
      (λ q.
      let g = apart a c (leb-false c a q) in
      rw (p, q, le-leb (a * k + b) (c * k + d) (omega arith), lt-leb (c * k + d) (a * k + b) (omega arith))))
      (λ p. let g = apart c a (leb-false a c p) in rw (p, lt-leb (a * k + b) (c * k + d) (omega arith)))
    where
      apart : (x y : ℕ) → x < y → x * k + k ≤ y * k
      apart x y h = omega (arith, suc-mul x k, mul-le-mul_right k h)

-- the packed number of three: each decides in its turn
packed-tie : (a b c d e f : ℕ) → b < 4294967296 → e < 4294967296 → c < 65536 → f < 65536 → (t : Bool)
    → tie_break (leb a d) (leb d a) (tie_break (leb b e) (leb e b) (tie_break (leb c f) (leb f c) t))
    ≡ tie_break (leb (packed a b c) (packed d e f)) (leb (packed d e f) (packed a b c)) t
unfolding packed
packed-tie a b c d e f hb he hc hf t =
    pair-tie 4294967296 a d hb he (tie_break (leb c f) (leb f c) t) ∙ pair-tie 65536 (a * 4294967296 + b) (d * 4294967296 + e) hc hf t

-- that of a sum alone
sum-alone : (a b : ℕ) → leb a b ≡ leb (packed 0 a 0) (packed 0 b 0)
unfolding packed
sum-alone a b = leb-iff a b ((0 * 4294967296 + a) * 65536 + 0) ((0 * 4294967296 + b) * 65536 + 0) (λ h. omega arith) (λ h. omega arith)

-- the first in it, and the second
y1-packed : (a s b : ℕ) → s < 4294967296 → b < 65536 → y1_in (packed a s b) ≡ a
unfolding y1_in packed
y1-packed a s b h k = omega arith

sum-packed : (a s b : ℕ) → s < 4294967296 → b < 65536 → sum_in (packed a s b) ≡ s
unfolding sum_in packed
sum-packed a s b h k = omega arith

-- ---- the laws

module _ (list : List ℕ) (known : AllBytes list) where
  -- numbers of two bytes, and of four, are in their ranges
  below16 : (i : ℕ) → u16_at list i < 65536
  below16 i = omega (arith, known i, known (i + 1))

  below32 : (i : ℕ) → u32_at list i < 4294967296
  below32 i = omega (arith, below16 i, below16 (i + 2))

  -- and so they compare raised
  order16 : (i j : ℕ) → le_z (i16_at list i) (i16_at list j) ≡ leb (raised16 (u16_at list i)) (raised16 (u16_at list j))
  order16 i j = raised-order w16 (u16_at list i) (u16_at list j) (below16 i) (below16 j)

  order32 : (i j : ℕ) → le_z (i32_at list i) (i32_at list j) ≡ leb (raised32 (u32_at list i)) (raised32 (u32_at list j))
  order32 i j = raised-order w32 (u32_at list i) (u32_at list j) (below32 i) (below32 j)

  -- the raised costs of plan r
  abbrev sum_of : ℕ → ℕ
  sum_of r = raised32 (u32_at list (plan_start list r + 2))

  abbrev y_of : ℕ → ℕ → ℕ
  y_of j r = raised16 (ceiling_bits list (plan_start list r) j)

  sum_below : (r : ℕ) → sum_of r < 4294967296
  unfolding raised
  sum_below r = omega arith

  y-below : (j r : ℕ) → y_of j r < 65536
  unfolding raised
  y-below j r = omega arith

  -- the first two ceiling costs of plan r
  cost-at : (j r : ℕ) → j < narrow_slots → plan_cost list r j ≡ signed w16 (ceiling_bits list (plan_start list r) j)
  unfolding costs_at
  cost-at j r h =
      let room : j < head_slots list = omega (arith, slots-least (head_ceilings list)) in
      tabulate-at (plan_ceiling (head_slots list) list (plan_start list r)) ceilings_held j (omega arith) (pos 0) ∙ rw (lt-ltb j (head_slots list) room)

  -- the key of plan r in a list without ceilings, and in any other
  key-without_ceilings : (r : ℕ) → without_ceilings list ≡ true → plan_key list r ≡ packed 0 (sum_of r) 0
  unfolding plan_key key_at
  key-without_ceilings r e = rw e

  key-bounded : (r : ℕ) → without_ceilings list ≡ false → plan_key list r ≡ packed (y_of 0 r) (sum_of r) (y_of 1 r)
  unfolding plan_key key_at
  key-bounded r e = rw e

  -- THE LAW: plans stand in the index by their keys, then by their numbers
  pub key-order : (x y : ℕ) → dictionary_le orderℤ (index_key list x) (index_key list y) ≡ pair_le orderℕ orderℕ (plan_key list x, x) (plan_key list y, y)
  unfolding index_key costs_at
  key-order x y =
      by-test (without_ceilings list)
      (λ e. rw (e, key-without_ceilings x e, key-without_ceilings y e)
      (λ i. tie_break ((sum x y ∙ sum-alone (sum_of x) (sum_of y)) i) ((sum y x ∙ sum-alone (sum_of y) (sum_of x)) i) (last i)))
      (λ e. rw (e, key-bounded x e, key-bounded y e)
      (costs ∙ packed-tie (y_of 0 x) (sum_of x) (y_of 1 x) (y_of 0 y) (sum_of y) (y_of 1 y) (sum_below x) (sum_below y) (y-below 1 x) (y-below 1 y) (leb x y)))
    where
      cost : (j : ℕ) → j < narrow_slots → (x y : ℕ) → le_z (plan_cost list x j) (plan_cost list y j) ≡ leb (y_of j x) (y_of j y)
      cost j h x y = ap₂ le_z (cost-at j x h) (cost-at j y h) ∙ order16 (plan_start list x + 6 + 2 * j) (plan_start list y + 6 + 2 * j)

      y1 : (x y : ℕ) → le_z (plan_cost list x 0) (plan_cost list y 0) ≡ leb (y_of 0 x) (y_of 0 y)
      y1 = cost 0 (omega arith)

      sum : (x y : ℕ) → le_z (plan_costs list x).sum (plan_costs list y).sum ≡ leb (sum_of x) (sum_of y)
      sum x y = order32 (plan_start list x + 2) (plan_start list y + 2)

      y2 : (x y : ℕ) → le_z (plan_cost list x 1) (plan_cost list y 1) ≡ leb (y_of 1 x) (y_of 1 y)
      y2 = cost 1 (omega arith)

      last : tie_break (leb x y) (leb y x) true ≡ leb x y
      last = tie-last (leb x y) (leb y x)

      costs : dictionary_le orderℤ (plan_cost list x 0 ∷ (plan_costs list x).sum ∷ plan_cost list x 1 ∷ pos x ∷ [])
          (plan_cost list y 0 ∷ (plan_costs list y).sum ∷ plan_cost list y 1 ∷ pos y ∷ [])
          ≡ tie_break (leb (y_of 0 x) (y_of 0 y)) (leb (y_of 0 y) (y_of 0 x))
          (tie_break (leb (sum_of x) (sum_of y)) (leb (sum_of y) (sum_of x)) (tie_break (leb (y_of 1 x) (y_of 1 y)) (leb (y_of 1 y) (y_of 1 x)) (leb x y)))
      costs = λ i. tie_break (y1 x y i) (y1 y x i) (tie_break (sum x y i) (sum y x i) (tie_break (y2 x y i) (y2 y x i) (last i)))

  -- and of two plans the one with the lower number stands before the other, or is the same, where its key is at most the other's
  pub earlier-by : (x y : ℕ) → x < y → dictionary_le orderℤ (index_key list x) (index_key list y) ≡ leb (plan_key list x) (plan_key list y)
  earlier-by x y h =
      key-order x y ∙ rw (le-leb x y (omega arith)) (tie-last (leb (plan_key list x) (plan_key list y)) (leb (plan_key list y) (plan_key list x)))

  -- the sum in the key of plan r
  sum-in : (r : ℕ) → sum_in (plan_key list r) ≡ sum_of r
  sum-in r =
      by-test (without_ceilings list)
      (λ e. rw (key-without_ceilings r e) (sum-packed 0 (sum_of r) 0 (sum_below r) (omega arith)))
      (λ e. rw (key-bounded r e) (sum-packed (y_of 0 r) (sum_of r) (y_of 1 r) (sum_below r) (y-below 1 r)))

  -- plans compare by the sums in their keys as by their sums
  pub sum-key : (x y : ℕ) → le_z (plan_sum list x) (plan_sum list y) ≡ leb (sum_in (plan_key list x)) (sum_in (plan_key list y))
  unfolding costs_at
  sum-key x y = order32 (plan_start list x + 2) (plan_start list y + 2) ∙ sym (ap₂ leb (sum-in x) (sum-in y))

  -- a plan meets a value where the y1 in its key is at most the value's raised bits
  pub meets-key : (y : ℤ) → SFits w16 y → (r : ℕ) → meets list y r ≡ leb (y1_in (plan_key list r)) (raised16 (bits_of w16 y))
  unfolding meets costs_at
  meets-key y f r =
      by-test (without_ceilings list)
      (λ e. rw (e, key-without_ceilings r e, y1-packed 0 (sum_of r) 0 (sum_below r) (omega arith), le-leb 0 (raised16 (bits_of w16 y)) (omega arith)))
      (λ e. rw (e, key-bounded r e, y1-packed (y_of 0 r) (sum_of r) (y_of 1 r) (sum_below r) (y-below 1 r))
      (ap (λ (z : ℤ). le_z z y) (cost-at 0 r (omega arith))
      ∙ raised-within w16 (ceiling_bits list (plan_start list r) 0) y (below16 (plan_start list r + 6 + 2 * 0)) f))
