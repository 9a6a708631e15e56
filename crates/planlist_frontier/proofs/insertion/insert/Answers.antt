-- `planlist_frontier::insertion::insert` meets its contract. The records from the plan's place on are lent to `put`.
use mathlib.Core.Bool.{false}
use mathlib.Core.Path.{◌≡◌, sym, ap, ap₂, ◌∙◌, subst⁻¹}
use mathlib.Core.List.{List, ◌∷◌, ◌++◌}
use Prim.Native.Nat.{ℕ, ◌+◌, ◌*◌, ◌-◌, ◌≤◌}
use native.Mathlib.Omega.{arith}
use lib.ListN.{length, take, drop, length-drop}
use Rattle.network.specs.PlanList.{plan_bytes, plan_size}
use Rattle.buffers.specs.Tail.{tail-back, tail-lent}
use Rattle.encoding.specs.Blocks.{blocks, blocks-behind, take-blocks, drop-blocks, length-blocks, room-behind, room_for}
use Rattle.planlist_records.specs.Records.{plan_records}
use Rattle.planlist_records.specs.Held.{costs-encoded}
use Rattle.planlist_frontier.specs.Insertion.{covered_by, insert-covered, insert-free, place_of, pruned_by}
use Rattle.planlist_frontier.specs.Level.{free-covered, free-place, pruned-behind, sums-sorted}
use Rattle.planlist_frontier.specs.Lower.{SumsRise}
use Rattle.planlist_frontier.specs.Place.{free_place}
use Rattle.planlist_frontier.specs.Pruned.{pruned_level}
use Rattle.network.specs.declared.Costs.{Costs}
use Rattle.planlist_frontier.specs.Taken.{Insertable}
use Rattle.planlist_frontier.proofs.insertion.insert.Goals as goal
use Rattle.planlist_frontier.proofs.insertion.insert.Goals.{After-plan_size-size, In-Some}

-- no stored plan is at most it, and the place is its place in the order
free : (slots t count front : ℕ) (v : Costs) (plans : List ℕ) → Insertable slots v t count plans
    → free_place slots v (plan_records slots t count plans) ≡ front → front ≤ count
    → let bs = plan_records slots t count plans in (covered_by slots v bs ≡ false) × (front ≡ place_of slots v bs)
free slots t count front v plans h e few =
    let bs = plan_records slots t count plans in
    let counted = length-blocks (plan_size slots t) count plans in
    let r = free-place slots v bs h.rise h.level (omega (arith, counted)) in
    (r.0, sym e ∙ r.1)

-- where it starts, and the records from there on and one more have room
room : (slots t count size front : ℕ) (v : Costs) (plans : List ℕ) → Insertable slots v t count plans → size ≡ plan_size slots t → front ≤ count
    → (front * size ≡ front * plan_size slots t) × (front * plan_size slots t + (count - front + 1) * plan_size slots t ≤ length plans)
room slots t count size front v plans h z few =
    (ap (λ (z : ℕ). front * z) z, room-behind front count (plan_size slots t) h.room few)

-- the records that are searched are the stored ones
stored-are : (c : After-plan_size-size)
    → let a = c.args in
    blocks c.plan_size-size.result a.count a.plans.now ≡ plan_records a.slots (length a.links.now) a.count a.plans.now
stored-are c = let a = c.args in ap (λ (z : ℕ). blocks z a.count a.plans.now) c.plan_size-size.ensures

pub free_place-requires : goal.free_place-requires
free_place-requires c =
    let a = c.args in
    let z = c.plan_size-size in
    let size = plan_size a.slots (length a.links.now) in
    let stored = plan_records a.slots (length a.links.now) a.count a.plans.now in
    let product = ap (λ (z : ℕ). a.count * z) z.ensures in
    let searched = stored-are ((goal.at.free_place-requires c).After-plan_size-size) in (
      record {
        wide = omega (arith, z.ensures);
        room = omega (arith, product, room_for a.count a.count size c.requires.room (omega arith));
        sums = subst⁻¹ SumsRise searched (sums-sorted a.slots stored c.requires.rise);
      },
      omega (arith, z.ensures),
      c.requires.writable.held,
    )

pub returns-in_default : goal.returns-in_default
returns-in_default c =
    let a = c.args in
    let t = length a.links.now in
    let stored = plan_records a.slots t a.count a.plans.now in
    let counted = length-blocks (plan_size a.slots t) a.count a.plans.now in
    let e = sym (ap (free_place a.slots a.v) (stored-are ((goal.at.returns-in_default c).After-plan_size-size))) ∙ c.in_default.ensures in
    let covered = free-covered a.slots a.v stored c.requires.rise c.requires.level (omega (arith, counted, e)) in
    record {
      writable = c.requires.writable;
      few = omega arith;
      records-are =
          sym (insert-covered a.slots (plan_bytes a.slots a.v a.links.now) a.v stored c.requires.rise
          (costs-encoded a.slots a.v a.links.now c.requires.writable) covered);
    }

-- the place has room
fits : (c : In-Some)
    → let a = c.args in
    let i = c.in-Some.front in
    let size = plan_size a.slots (length a.links.now) in
    (i * c.plan_size-size.result ≡ i * size) × (i * size + (a.count - i + 1) * size ≤ length a.plans.now)
fits c =
    let a = c.args in
    room a.slots (length a.links.now) a.count c.plan_size-size.result c.in-Some.front a.v a.plans.now c.requires c.plan_size-size.ensures c.in-Some.ensures.0

pub overflow_mul-start : goal.overflow_mul-start
overflow_mul-start c = omega (arith, fits ((goal.at.overflow_mul-start c).In-Some), c.well_formed)

pub slice_bounds-put-start : goal.slice_bounds-put-start
slice_bounds-put-start c = omega (arith, fits ((goal.at.slice_bounds-put-start c).In-Some))

pub put-requires : goal.put-requires
put-requires c =
    let a = c.args in
    let start = c.in-Some.front * c.plan_size-size.result in (
      omega (arith, fits ((goal.at.put-requires c).In-Some), ap length (tail-lent start a.plans.now), length-drop start a.plans.now),
      c.requires.writable,
      c.requires.few-links,
    )

pub returns : goal.returns
returns c =
    let a = c.args in
    let t = length a.links.now in
    let i = c.in-Some.front in
    let few = c.in-Some.ensures.0 in
    let room = fits ((goal.at.returns c).In-Some) in
    let e = sym (ap (free_place a.slots a.v) (stored-are ((goal.at.returns c).After-plan_size-size))) ∙ c.in-Some.ensures.1 in
    let is_free = free a.slots t a.count i a.v a.plans.now c.requires e few in
    let d = a.plans.now in
    let links = a.links.now in
    let size = plan_size a.slots t in
    let stored = plan_records a.slots t a.count d in
    let x = plan_bytes a.slots a.v links in
    let done = c.put in
    let last = done.new.plans in
    let start = i * c.plan_size-size.result in
    let behind = ap (blocks size (a.count - i)) (tail-lent start d ∙ ap (λ (k : ℕ). drop k d) room.0) ∙ sym (drop-blocks size i a.count d few) in
    let kept = ap (pruned_level a.slots a.v) behind ∙ pruned-behind a.slots a.v stored c.requires.rise c.requires.level i in
    record {
      writable = c.requires.writable;
      few = omega (arith, done.ensures.few, few);
      records-are =
          ap (blocks size (i + done.result)) (tail-back start d last ∙ ap (λ (k : ℕ). take k d ++ last) room.0)
          ∙ blocks-behind size i done.result d last (omega (arith, room.1))
          ∙ ap₂ (λ (l r : List (List ℕ)). l ++ r) (sym (take-blocks size i a.count d few))
          (done.ensures.records-are ∙ ap (λ (l : List (List ℕ)). x ∷ l) kept)
          ∙ ap (λ (k : ℕ). take k stored ++ x ∷ pruned_by a.slots a.v (drop k stored)) is_free.1
          ∙ sym (insert-free a.slots x a.v stored c.requires.rise (costs-encoded a.slots a.v links c.requires.writable) is_free.0);
    }
