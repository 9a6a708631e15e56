-- The keys of a list's plans, as a loop reads them plan by plan and tests the marks.
use Rattle.std.specs.Prelude.{Bool, true, false, Err, is_ok, ◌&&◌, List, ◌≡◌, refl, length, set, take}
use Rattle.std.proofs.Common.{sym, ◌∙◌, zero-mul}
use Rattle.std.proofs.Math.Path.{ap, ap₂}
use Prim.Native.Nat.{ℕ, suc, ◌+◌, ◌-◌, ◌≤◌, ◌<◌}
use Rattle.std.proofs.Math.Nat.{add-mul, one-mul, sub-zero}
use native.Mathlib.Omega.{arith}
use Rattle.std.proofs.Math.ListN.{length-set}
use Rattle.order.specs.Test.{clash}
use Rattle.order.specs.Lists.{all, numbers_from}
use Rattle.network.specs.Bytes.{mark_at}
use Rattle.network.specs.Checked.{no_refusal, refuse_if}
use Rattle.network.specs.declared.refusals.Rule.TheVariants.{DamagedList}
use Rattle.network.specs.PlanList.{head_size, plan_mark, plan_size}
use Rattle.network.specs.Fetching.{damaged, head_count, head_slots, head_tree_size, is_marked, plan_start}
use Rattle.network.specs.Indexing.{plan_numbers}
use Rattle.planlist_fetching.specs.Found.{plan-inside}
use Rattle.order.specs.Columns.{tabled}
use Rattle.order.proofs.Columns.{tabled-end, tabled_start, tabled-turn}
use Rattle.index_keys.specs.Key.{KeysRead, key_at, plan_key}

-- the plans from number r on have their marks
unfoldable pub marked_from : List ℕ → ℕ → Bool
marked_from list r = all (is_marked list) (numbers_from (head_count list - r) r)

-- those from number 0 on are all
marked_all : (list : List ℕ) → all (is_marked list) (plan_numbers list) ≡ marked_from list 0
unfolding marked_from
marked_all list = ap (λ (k : ℕ). all (is_marked list) (numbers_from k 0)) (sym (sub-zero (head_count list)))

-- and those from number r on are plan r and those behind it
module _ (list : List ℕ) (r : ℕ) where
  marked_turn : {b : Bool} → r < head_count list → is_marked list r ≡ b → marked_from list r ≡ b && marked_from list (r + 1)
  unfolding marked_from numbers_from
  marked_turn more e =
      let n = head_count list in
      let step : n - r ≡ suc (n - (r + 1)) = omega arith in
      let next : suc r ≡ r + 1 = omega arith in
      ap (λ (k : ℕ). all (is_marked list) (numbers_from k r)) step
      ∙ ap₂ (λ (b : Bool) (k : ℕ). b && all (is_marked list) (numbers_from (n - (r + 1)) k)) e next

  marked-none : head_count list ≤ r → marked_from list r ≡ true
  unfolding marked_from numbers_from
  marked-none h = let none : head_count list - r ≡ 0 = omega arith in rw none

-- before plan r: the first r keys are those of the first r plans, which have their marks, and `at` is where plan r's record is
pub record Reading (list keys : List ℕ) (at r : ℕ) : Type 0 where
  pub front : take r keys ≡ tabled (plan_key list) r
  pub behind : at ≡ plan_start list r
  pub left : all (is_marked list) (plan_numbers list) ≡ marked_from list r
  pub full : length keys ≡ head_count list
  pub few : r ≤ head_count list

pub reading-start : (list keys : List ℕ) → length keys ≡ head_count list → Reading list keys head_size 0
reading-start list keys e =
    let z = plan_size (head_slots list) (head_tree_size list) in
    record {
      front = tabled_start (plan_key list) keys;
      behind = omega (arith, zero-mul z);
      left = marked_all list;
      full = e;
      few = omega arith;
    }

module _ {list keys : List ℕ} {at r : ℕ} (w : Reading list keys at r) (more : r < length keys) where
  -- plan r's record lies inside
  pub reading-inside : damaged list ≡ false → at + plan_size (head_slots list) (head_tree_size list) ≤ length list
  reading-inside d = omega (arith, w.behind, plan-inside list r d (omega (arith, w.full)))

  -- its mark decides, then those behind it
  left_by : {b : Bool} {mark : List ℕ} → mark ≡ plan_mark (head_slots list) → b ≡ mark_at list at mark
      → all (is_marked list) (plan_numbers list) ≡ b && marked_from list (r + 1)
  left_by m e = w.left ∙ marked_turn list r (omega (arith, w.full)) (sym (e ∙ ap₂ (mark_at list) w.behind m))

  pub reading-turn : {k size : ℕ} {mark : List ℕ} → mark ≡ plan_mark (head_slots list) → true ≡ mark_at list at mark → k ≡ key_at list at
      → size ≡ plan_size (head_slots list) (head_tree_size list) → Reading list (set keys r k) (at + size) (r + 1)
  unfolding plan_key
  reading-turn m e key s =
      let z = plan_size (head_slots list) (head_tree_size list) in
      record {
        front = tabled-turn (plan_key list) keys r w.front more (key ∙ ap (key_at list) w.behind);
        behind = omega (arith, w.behind, add-mul r 1 z, one-mul z);
        left = left_by m e;
        full = simp length-set w.full;
        few = omega (arith, w.full);
      }

  -- a wrong mark
  pub reading-stops : {mark : List ℕ} → mark ≡ plan_mark (head_slots list) → false ≡ mark_at list at mark
      → KeysRead list keys (Err (record { rule = DamagedList; place = 0 }))
  unfolding refuse_if
  reading-stops m e = record { marked = rw (left_by m e); filled = λ t. clash (ap is_ok t) refl }

-- no plan is left
pub reading-end : {list keys : List ℕ} {at r : ℕ} → Reading list keys at r → length keys ≤ r → KeysRead list keys no_refusal
unfolding refuse_if
reading-end {list} {keys} {at} {r} w h =
    let whole : r ≡ head_count list = omega (arith, w.full, w.few) in
    record {
      marked = rw (w.left ∙ marked-none list r (omega (arith, w.full)));
      filled = λ t. tabled-end (plan_key list) keys r w.front h ∙ ap (tabled (plan_key list)) whole;
    }
