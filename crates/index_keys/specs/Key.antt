-- The key of a plan in the index: y1, sum and y2 as one number; where the list has no ceiling, the sum alone in its place. The keys of all plans.
use Rattle.std.specs.Prelude.{cond, not, List, ◌≡◌, ℕ, ◌+◌, ◌*◌, ◌/◌, ◌%◌, ◌≤◌, leb}
use native.Mathlib.Omega.{arith}
use Rattle.std.proofs.Common.{eq-eqb, ne_eqb}
use Rattle.order.specs.Test.{by-test}
use Rattle.order.specs.Lists.{all}
use Rattle.network.specs.Bytes.{u16_at, u32_at}
use Rattle.network.specs.Checked.{Checked, no_refusal, refuse_if}
use Rattle.network.specs.declared.refusals.Rule.TheVariants.{DamagedList}
use Rattle.network.specs.Survey.{narrow_slots}
use Rattle.network.specs.PlanList.{plan_slots}
use Rattle.network.specs.Fetching.{head_ceilings, head_count, is_marked, plan_start}
use Rattle.network.specs.Indexing.{plan_numbers, without_ceilings}
use Rattle.order.specs.Columns.{tabled}

-- the plans of a short list, for which there are smaller columns
abbrev pub short_list : ℕ
short_list = 128

-- bits raised by half of their range, round its end: those of the upper half, which mean numbers below 0, come to stand below those of the lower half
unfoldable pub raised : ℕ → ℕ → ℕ
raised half u = (u + half) % (2 * half)

-- the bits of two bytes, raised
abbrev pub raised16 : ℕ → ℕ
raised16 u = raised 32768 u

-- those of four bytes
abbrev pub raised32 : ℕ → ℕ
raised32 u = raised 2147483648 u

-- y1, sum and y2, raised, as one number
unfoldable pub packed : ℕ → ℕ → ℕ → ℕ
packed y1 sum y2 = (y1 * 4294967296 + sum) * 65536 + y2

-- the y1 in such a number
unfoldable pub y1_in : ℕ → ℕ
y1_in k = k / 281474976710656

-- the sum in it
unfoldable pub sum_in : ℕ → ℕ
sum_in k = k / 65536 % 4294967296

-- every plan record has room for y1 and y2
pub slots-least : (p : ℕ) → narrow_slots ≤ plan_slots p
unfolding plan_slots
slots-least p = by-test (leb p narrow_slots) (λ e. rw e (omega arith)) (λ e. rw e (omega arith))

-- the bits of ceiling cost j, from 0, in the plan record at an index
abbrev pub ceiling_bits : List ℕ → ℕ → ℕ → ℕ
ceiling_bits list at j = u16_at list (at + 6 + 2 * j)

-- the key of the plan whose record is at an index, by the bits in that record
unfoldable pub key_at : List ℕ → ℕ → ℕ
key_at list at =
    let sum = raised32 (u32_at list (at + 2)) in
    cond (without_ceilings list) (packed 0 sum 0) (packed (raised16 (ceiling_bits list at 0)) sum (raised16 (ceiling_bits list at 1)))

-- the key of plan r
unfoldable pub plan_key : List ℕ → ℕ → ℕ
plan_key list r = key_at list (plan_start list r)

-- what reading the keys gives: a refusal of the list where a plan has no mark, and if each has, the keys of all plans in the order of the list
pub record KeysRead (list keys : List ℕ) (r : Checked) : Type 0 where
  pub marked : r ≡ refuse_if (not (all (is_marked list) (plan_numbers list))) DamagedList 0
  pub filled : r ≡ no_refusal → keys ≡ tabled (plan_key list) (head_count list)

-- ---- by what the code finds

-- the key, by the numbers that are read
module _ (list : List ℕ) (at : ℕ) {u sum : ℕ} (bits : u ≡ u32_at list (at + 2)) (raise : sum ≡ raised32 u) where
  pub key-sum : head_ceilings list ≡ 0 → packed 0 sum 0 ≡ key_at list at
  unfolding key_at
  key-sum h = rw (eq-eqb (head_ceilings list) 0 h, raise, bits)

  pub key-all : {u₁ u₂ y1 y2 : ℕ} → (head_ceilings list ≡ 0 → ⊥) → u₁ ≡ u16_at list (at + 6) → y1 ≡ raised16 u₁ → u₂ ≡ u16_at list (at + 6 + 2)
      → y2 ≡ raised16 u₂ → packed y1 sum y2 ≡ key_at list at
  unfolding key_at
  key-all h bits₁ raise₁ bits₂ raise₂ =
      let first : at + 6 + 2 * 0 ≡ at + 6 = omega arith in
      rw (ne_eqb (head_ceilings list) 0 h, first, raise₁, bits₁, raise₂, bits₂, raise, bits)
