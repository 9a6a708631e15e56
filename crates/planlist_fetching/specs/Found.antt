-- Finding a plan in a list: what the code learns from its tests.
use Rattle.std.specs.Prelude.{Bool, not, cond, ◌||◌, List, refl, ℕ, ◌+◌, ◌*◌, ◌≤◌, ◌<◌, ltb, length}
use Rattle.std.proofs.Math.Bool.{true, false}
use Rattle.std.proofs.Math.Path.{◌≡◌}
use Rattle.std.proofs.Common.{sym, ◌∙◌, suc-mul, mul-le-mul_right, arith}
use borrow.Author.Tests.{ltb-false, ltb-true, lt-ltb, le-ltb}
use Rattle.network.specs.Limits.{max_ceilings, max_plans, max_tree}
use Rattle.network.specs.Bytes.{mark_at}
use Rattle.network.specs.PlanList.{head_mark, head_size, plan_size}
use Rattle.network.proofs.Accepted.{or-false}
use Rattle.network.specs.Checked.{number_of}
use Rattle.network.specs.declared.refusals.Refusal.{Refusal}
use Rattle.network.specs.Fetching.{damaged, fetch_number, head_ceilings, head_count, head_slots, head_tree_size, is_marked, plan_start}

-- a list with room for its head and for its plans, which are not too many
pub record Whole (list : List ℕ) : Type 0 where
  pub long : head_size ≤ length list
  pub few : head_count list ≤ max_plans
  pub room : plan_start list (head_count list) ≤ length list

-- a list that is not damaged has it
pub whole : (list : List ℕ) → damaged list ≡ false → Whole list
unfolding damaged
whole list e =
    let f = or-false _ (ltb (length list) (plan_start list (head_count list))) e in
    let g = or-false _ (ltb max_ceilings (head_ceilings list)) f.0 in
    let h = or-false _ (ltb max_tree (head_tree_size list)) g.0 in
    let i = or-false _ (ltb max_plans (head_count list)) h.0 in
    let j = or-false (ltb (length list) head_size) (not (mark_at list 0 head_mark)) i.0 in
    record { long = ltb-false _ _ j.0; few = ltb-false _ _ i.1; room = ltb-false _ _ f.1 }

-- a list that is shorter than a head is damaged
pub damaged-short : (list : List ℕ) → length list < head_size → damaged list ≡ true
unfolding damaged
damaged-short list h = rw (lt-ltb (length list) head_size h)

-- any other by the tests that the code makes
pub damaged-by : (list : List ℕ) → head_size ≤ length list → {mark : Bool} {count size : ℕ} → mark ≡ mark_at list 0 head_mark → count ≡ head_count list
    → size ≡ plan_size (head_slots list) (head_tree_size list)
    → not mark || ltb max_plans count || ltb max_tree (head_tree_size list) || ltb max_ceilings (head_ceilings list) || ltb (length list) (head_size + count * size)
    ≡ damaged list
unfolding damaged
damaged-by list h m k z =
    let e = le-ltb (length list) head_size h in
    λ i. sym e i || not (m i) || ltb max_plans (k i) || ltb max_tree (head_tree_size list) || ltb max_ceilings (head_ceilings list)
    || ltb (length list) (head_size + k i * z i)

-- a plan below the count lies inside
pub plan-inside : (list : List ℕ) (r : ℕ) → damaged list ≡ false → r < head_count list
    → plan_start list r + plan_size (head_slots list) (head_tree_size list) ≤ length list
plan-inside list r e h =
    let size = plan_size (head_slots list) (head_tree_size list) in
    omega (arith, (whole list e).room, suc-mul r size, mul-le-mul_right size h)

-- ---- the number, by the tests that lead to it

module _ (list : List ℕ) (r : ℕ) where
  -- 12 where the list is damaged
  pub number-damaged : damaged list ≡ true → fetch_number list r ≡ 12
  unfolding fetch_number
  number-damaged e = rw e

  -- 13 where it has no plan r
  pub number-none : damaged list ≡ false → head_count list ≤ r → fetch_number list r ≡ 13
  unfolding fetch_number
  number-none e h = rw (e, le-ltb r (head_count list) h)

  -- else by plan r's mark
  pub number-marked : damaged list ≡ false → r < head_count list → {b : Bool} → is_marked list r ≡ b → fetch_number list r ≡ cond b 0 12
  unfolding fetch_number
  number-marked e h f = rw (e, lt-ltb r (head_count list) h, f)

  -- a plan that is found is below the count of a list that is not damaged
  pub found : fetch_number list r ≡ 0 → (damaged list ≡ false) × (r < head_count list)
  unfolding fetch_number
  found = go (damaged list) (ltb r (head_count list)) (is_marked list r) (ltb-true r (head_count list))
    where
      go : (a b c : Bool) → (b ≡ true → r < head_count list) → ◌≡◌ {A = ℕ} (cond a 12 (cond b (cond c 0 12) 13)) 0 → (a ≡ false) × (r < head_count list)
      go true b c h e = absurd (omega arith)
      go false true c h e = (refl, h refl)
      go false false c h e = absurd (omega arith)

-- ---- plan r found at an index, and not found

pub record FoundAt (list : List ℕ) (r at : ℕ) : Type 0 where
  pub number : fetch_number list r ≡ 0
  pub start : at ≡ plan_start list r

pub record NotFound (list : List ℕ) (r : ℕ) (e : Refusal) : Type 0 where
  pub number : fetch_number list r ≡ number_of e.rule
  pub refused : fetch_number list r ≡ 0 → ⊥

-- its record lies inside
pub found-inside : {list : List ℕ} {r at : ℕ} → FoundAt list r at → (head_size ≤ length list) × (at + plan_size (head_slots list) (head_tree_size list) ≤ length list)
found-inside {list} {r} f =
    let w = found list r f.number in
    ((whole list w.0).long, omega (arith, f.start, plan-inside list r w.0 w.1))

-- refused by a rule, whose number is not 0
pub not-found : {list : List ℕ} {r n : ℕ} {e : Refusal} → fetch_number list r ≡ n → n ≡ number_of e.rule → (n ≡ 0 → ⊥) → NotFound list r e
not-found e is apart = record { number = e ∙ is; refused = λ z. apart (sym e ∙ z) }
