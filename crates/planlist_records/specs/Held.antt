-- The costs that a plan record holds.
use Rattle.std.specs.Prelude.{◌≡◌, refl, List, [], ◌∷◌, ◌++◌, ℕ, zero, suc, ◌+◌, ◌*◌, ◌-◌, ◌≤◌, ◌<◌, ltb, ℤ, pos, drop, get_or, length, take}
use Rattle.std.proofs.Math.Path.{sym}
use Rattle.std.proofs.Common.{ap, ◌∙◌, arith, SFits, drop_at, drop-drop, get_or-drop, get_or-take, length-take-le, ltb-false, ltb-true, add-zero, subst, zero-add}
use Rattle.std.specs.Array.{IsFromFnResult, IsFromFnResultFrom}
use Rattle.std.specs.Fn.{Called, Mut}
use Rattle.std.specs.Int.{w16, w32}
use Rattle.std.proofs.Math.Seq.{ext_get_or}
use Rattle.order.specs.Test.{by-test}
use Rattle.network.specs.Bytes.{bits_of, byte_at, i16_at, i32_at, little_endian, signed, u16_at}
use Rattle.network.specs.Capacities.{ceilings_held}
use Rattle.network.specs.PlanList.{ceiling_bytes, costs_at, plan_bytes, plan_ceiling, plan_mark, plan_size, plan_sum_at}
use Rattle.network.specs.Tabulate.{tabulate}
use Rattle.network.proofs.Tabulate.{tabulate-at, tabulate-length, tabulate-same}
use Rattle.network.specs.declared.Costs.{Costs}
use Rattle.encoding.specs.SignedRoundTrip.{i16-bytes, i32-bytes}
use Rattle.encoding.specs.Blocks.{blocks, blocks-turn}
use Rattle.planlist_records.specs.Records.{length-mark}

-- an array that a function of the index made
module _ {F A : Type 0} (g : Mut F (ℕ × Unit {0}) A) (f : F) (h : ℕ → A) (each : (i : ℕ) (r : A) (q : F) → Called g f (i, tt) r q → (q ≡ f) × (r ≡ h i)) where
  made-from : (ys : List A) (i n : ℕ) (q : F) → q ≡ f → IsFromFnResultFrom g q ys i n → (j : ℕ) → j < n → (d : A) → get_or ys (i + j) d ≡ h (i + j)
  made-from ys i zero q e m j k d = absurd (omega arith)
  made-from ys i (suc n) q e (r, y, at, called, rest) zero k d =
      let own : Called g f (i, tt) y r = subst (λ (u : F). Called g u (i, tt) y r) e called in
      rw add-zero (at.1 d ∙ (each i y r own).1)
  made-from ys i (suc n) q e (r, y, at, called, rest) (suc j) k d =
      let own : Called g f (i, tt) y r = subst (λ (u : F). Called g u (i, tt) y r) e called in
      let next : i + 1 + j ≡ i + suc j = omega arith in
      subst (λ (l : ℕ). get_or ys l d ≡ h l) next (made-from ys (i + 1) n r (each i y r own).0 rest j (omega arith) d)

  pub tabulate-made : (ys : List A) (n : ℕ) → IsFromFnResult g f ys n → (d : A) → ys ≡ tabulate h n
  tabulate-made ys n m d =
      ext_get_or d ys (tabulate h n) (m.long ∙ sym (tabulate-length h n))
      (λ j k.
      let l : j < n = omega (arith, m.long) in
      subst (λ (i : ℕ). get_or ys i d ≡ h i) (zero-add j) (made-from ys 0 n f refl m.each j l d) ∙ sym (tabulate-at h n j l d))

-- costs that a record with room for so many ceiling costs can hold
pub record Writable (slots : ℕ) (v : Costs) : Type 0 where
  pub sum_fits : SFits w32 v.sum
  pub each_fits : (j : ℕ) → SFits w16 (get_or v.y j (pos 0))
  pub held : length v.y ≡ ceilings_held
  pub few : slots ≤ ceilings_held
  pub absent : (j : ℕ) → slots ≤ j → get_or v.y j (pos 0) ≡ pos 0

-- the ceiling costs of a record
pub costs-ceilings : (slots : ℕ) (bs : List ℕ) (at : ℕ) → (costs_at slots bs at).y ≡ tabulate (plan_ceiling slots bs at) ceilings_held
unfolding costs_at
costs-ceilings slots bs at = refl

pub costs-held : (slots : ℕ) (bs : List ℕ) (at : ℕ) → length (costs_at slots bs at).y ≡ ceilings_held
costs-held slots bs at = ap length (costs-ceilings slots bs at) ∙ tabulate-length (plan_ceiling slots bs at) ceilings_held

-- ---- numbers in a part of the bytes

-- behind the first n bytes
u16-behind : (n : ℕ) (bs : List ℕ) (k j : ℕ) → j ≡ n + k → u16_at (drop n bs) k ≡ u16_at bs j
u16-behind n bs k j e =
    let next : n + (k + 1) ≡ j + 1 = omega arith in
    λ i. (get_or-drop n bs k 0 ∙ ap (byte_at bs) (sym e)) i + (get_or-drop n bs (k + 1) 0 ∙ ap (byte_at bs) next) i * 256

i32-behind : (n : ℕ) (bs : List ℕ) (k j : ℕ) → j ≡ n + k → i32_at (drop n bs) k ≡ i32_at bs j
i32-behind n bs k j e = λ i. signed w32 (u16-behind n bs k j e i + u16-behind n bs (k + 2) (j + 2) (omega arith) i * 65536)

-- among the first z bytes
u16-front : (z : ℕ) (bs : List ℕ) (k : ℕ) → k + 2 ≤ z → u16_at (take z bs) k ≡ u16_at bs k
u16-front z bs k h = λ i. get_or-take z bs k 0 (omega arith) i + get_or-take z bs (k + 1) 0 (omega arith) i * 256

i32-front : (z : ℕ) (bs : List ℕ) (k : ℕ) → k + 4 ≤ z → i32_at (take z bs) k ≡ i32_at bs k
i32-front z bs k h = λ i. signed w32 (u16-front z bs k (omega arith) i + u16-front z bs (k + 2) (omega arith) i * 65536)

-- ---- what was written

-- one of the ceiling costs
ceiling-encoded : (ys : List ℤ) (rest : List ℕ) (j : ℕ) → j < length ys → SFits w16 (get_or ys j (pos 0))
    → i16_at (ceiling_bytes ys ++ rest) (2 * j) ≡ get_or ys j (pos 0)
unfolding ceiling_bytes
ceiling-encoded [] rest j h f = absurd (omega arith)
ceiling-encoded (y ∷ ys) rest zero h f = i16-bytes y f
ceiling-encoded (y ∷ ys) rest (suc j) h f =
    sym (ap (signed w16) (u16-behind 2 (ceiling_bytes (y ∷ ys) ++ rest) (2 * j) (2 * suc j) (omega arith)))
    ∙ ceiling-encoded ys rest j (omega arith) f

module _ (slots : ℕ) (v : Costs) (links : List ℕ) (w : Writable slots v) where
  -- the record, what stands behind its mark, and what stands behind its sum
  abbrev whole : List ℕ
  whole = plan_bytes slots v links

  abbrev costs : List ℕ
  costs = ceiling_bytes (take slots v.y) ++ links

  behind-mark : drop 2 whole ≡ little_endian 4 (bits_of w32 v.sum) ++ costs
  behind-mark = drop_at (plan_mark slots) (little_endian 4 (bits_of w32 v.sum) ++ costs) 2 (length-mark slots)

  behind_sum : drop 6 whole ≡ costs
  behind_sum = sym (drop-drop 4 2 whole) ∙ ap (drop 4) behind-mark

  sum-encoded : plan_sum_at whole 0 ≡ v.sum
  sum-encoded = sym (i32-behind 2 whole 0 2 refl) ∙ ap (λ (l : List ℕ). i32_at l 0) behind-mark ∙ i32-bytes v.sum w.sum_fits

  entry-encoded : (j : ℕ) → plan_ceiling slots whole 0 j ≡ get_or v.y j (pos 0)
  entry-encoded j =
      by-test (ltb j slots)
      (λ e.
      let h : j < slots = ltb-true j slots e in
      let same = get_or-take slots v.y j (pos 0) h in
      let size = length-take-le slots v.y (omega (arith, w.few, w.held)) in
      let fits : SFits w16 (get_or (take slots v.y) j (pos 0)) = rw same (w.each_fits j) in
      rw e (sym (ap (signed w16) (u16-behind 6 whole (2 * j) (0 + 6 + 2 * j) (omega arith)))
      ∙ ap (λ (l : List ℕ). i16_at l (2 * j)) behind_sum
      ∙ ceiling-encoded (take slots v.y) links j (omega arith) fits
      ∙ same))
      (λ e. rw e (sym (w.absent j (ltb-false j slots e))))

  -- a record holds the costs that were written
  pub costs-encoded : costs_at slots whole 0 ≡ v
  unfolding costs_at
  costs-encoded =
      let f = plan_ceiling slots whole 0 in
      let size = tabulate-length f ceilings_held in
      let y =
      ext_get_or (pos 0) (tabulate f ceilings_held) v.y (size ∙ sym w.held)
      (λ j h. tabulate-at f ceilings_held j (omega arith) (pos 0) ∙ entry-encoded j) in
      λ i. record { sum = sum-encoded i; y = y i }

-- ---- a record among others

module _ (bs : List ℕ) (at z : ℕ) where
  -- its sum, taken by itself
  pub sum-block : plan_size 0 0 ≤ z → plan_sum_at (take z (drop at bs)) 0 ≡ plan_sum_at bs at
  sum-block h = i32-front z (drop at bs) 2 (omega arith) ∙ i32-behind at bs 2 (at + 2) refl

  -- its costs
  module _ (slots : ℕ) (wide : plan_size slots 0 ≤ z) where
    ceiling-block : (j : ℕ) → plan_ceiling slots (take z (drop at bs)) 0 j ≡ plan_ceiling slots bs at j
    ceiling-block j =
        by-test (ltb j slots)
        (λ e.
        let h : j < slots = ltb-true j slots e in
        let k = 0 + 6 + 2 * j in
        rw e (ap (signed w16) (u16-front z (drop at bs) k (omega arith) ∙ u16-behind at bs k (at + 6 + 2 * j) (omega arith))))
        (λ e. rw e)

    pub costs-block : costs_at slots (take z (drop at bs)) 0 ≡ costs_at slots bs at
    unfolding costs_at
    costs-block =
        let sum = sum-block (omega arith) in
        let y = tabulate-same (plan_ceiling slots (take z (drop at bs)) 0) (plan_ceiling slots bs at) ceilings_held (λ j h. ceiling-block j) in
        λ i. record { sum = sum i; y = y i }

    -- a function of records, at the one at index `at` and those after it, by what it makes of the first one's costs
    pub costs-turn : (left : ℕ) → 0 < left → {A : Type 0} (f : List (List ℕ) → A) (g : Costs → A)
        → f (take z (drop at bs) ∷ blocks z (left - 1) (drop (at + z) bs)) ≡ g (costs_at slots (take z (drop at bs)) 0)
        → f (blocks z left (drop at bs)) ≡ g (costs_at slots bs at)
    costs-turn left more f g e = ap f (blocks-turn z left at bs more) ∙ e ∙ ap g costs-block
