-- Records that rise, of which v compares with none of another sum: the passes by sums find and keep what insertion does.
use Rattle.std.specs.Prelude.{◌≡◌, Bool, true, false, cond, length, drop}
use Rattle.std.proofs.Math.Path.{refl, ap}
use Rattle.std.proofs.Common.{sym, ◌∙◌, arith}
use Rattle.std.proofs.Math.Bool.{not}
use mathlib.Core.List.Memᴰ.{head as here}
use mathlib.Core.List.Memᴰ.{tail as there}
use mathlib.Core.List.{List, [], ◌∷◌}
use Prim.Native.Nat.{ℕ, zero, suc, ◌≤◌, ◌<◌}
use Rattle.std.specs.Int.Signed.{le_z}
use Rattle.order.specs.Test.{by-test, clash}
use Rattle.order.proofs.Test.{refute}
use Rattle.order.specs.Lists.{◌∈◌}
use Rattle.order.proofs.Lists.{filter-all, none_any}
use Rattle.order.specs.Order.{Less, TotalOrder, le_z-trans, orderℤ}
use Rattle.order.proofs.Order.{dictionary-trans}
use Rattle.order.proofs.Order.{le_refl}
use Rattle.order.proofs.Perm.{pairwise-imp}
use Rattle.order.specs.Sorted.{Rising}
use Rattle.frontier.specs.Frontier.{vector, vector_order}
use Rattle.network.specs.Calls.{cost_values}
use Rattle.network.specs.declared.Costs.{Costs}
use Rattle.network.specs.PlanList.{costs_at}
use Rattle.planlist_records.specs.Orders.{at_most, in_order, at-most-before, in-order-higher, in-order-lower}
use Rattle.planlist_frontier.specs.Lower.{SumsRise}
use Rattle.planlist_frontier.specs.Place.{free_place}
use Rattle.planlist_frontier.specs.Pruned.{pruned_level}
use Rattle.planlist_frontier.specs.Insertion.{RecordsRise, covered_by, leading, place_of, pruned_by, records}

-- records that are at most v, or that v is at most, have its sum
pub record Level (slots : ℕ) (v : Costs) (bs : List (List ℕ)) : Type 0 where
  pub none-lower : (b : List ℕ) → b ∈ bs → at_most (costs_at slots b 0) v ≡ true → le_z v.sum (costs_at slots b 0).sum ≡ true
  pub none-higher : (b : List ℕ) → b ∈ bs → at_most v (costs_at slots b 0) ≡ true → le_z (costs_at slots b 0).sum v.sum ≡ true

-- no more members stand before the first that passes than there are
leading-few : {A : Type 0} (p : A → Bool) (l : List A) → leading p l ≤ length l
leading-few p [] = omega arith
leading-few p (x ∷ l) = let ih = leading-few p l in by-test (p x) (λ e. rw e (omega arith)) (λ e. rw e (omega arith))

-- the members from a place on
drop-mem : {A : Type 0} (n : ℕ) (l : List A) {x : A} → x ∈ drop n l → x ∈ l
drop-mem zero l m = m
drop-mem (suc n) [] m = m
drop-mem (suc n) (y ∷ l) m = there (drop-mem n l m)

-- what rises, rises from a place on
rising-drop : {K A : Type 0} (O : TotalOrder K) (key : A → K) (n : ℕ) (l : List A) → Rising O key l → Rising O key (drop n l)
rising-drop O key zero l r = r
rising-drop O key (suc n) [] r = r
rising-drop O key (suc n) (y ∷ l) r = rising-drop O key n l r.1

-- one more, in either case
suc-cond : (t : Bool) (m n : ℕ) → suc (cond t m n) ≡ cond t (suc m) (suc n)
suc-cond true m n = refl
suc-cond false m n = refl

-- of two records in rising order the later has no lower sum
no-lower-sum : (slots : ℕ) (b c : List ℕ) → Less (vector_order (records slots)) (vector (records slots) b) (vector (records slots) c)
    → le_z (costs_at slots b 0).sum (costs_at slots c 0).sum ≡ true
unfolding in_order
no-lower-sum slots b c h =
    by-test (le_z (costs_at slots b 0).sum (costs_at slots c 0).sum) (λ d. d) (λ d. clash (in-order-lower (costs_at slots c 0) (costs_at slots b 0) d) h)

-- so the sums do not fall
pub sums-sorted : (slots : ℕ) (bs : List (List ℕ)) → RecordsRise slots bs → SumsRise bs
unfolding costs_at
sums-sorted slots bs r = record { rise = pairwise-imp (no-lower-sum slots) bs r.rising }

-- from a record on the sums are no lower
sums-rise : (slots : ℕ) (b : List ℕ) (bs : List (List ℕ)) → Rising (vector_order (records slots)) (vector (records slots)) (b ∷ bs) → (c : List ℕ) → c ∈ b ∷ bs
    → le_z (costs_at slots b 0).sum (costs_at slots c 0).sum ≡ true
sums-rise slots b bs r c (here q) = rw q (le_refl orderℤ (costs_at slots b 0).sum)
sums-rise slots b bs r c (there m) = no-lower-sum slots b c (r.0 c m)

module _ (slots : ℕ) (v : Costs) where
  -- from a record on that v stands before, none is at most v
  free-from : (b : List ℕ) (bs : List (List ℕ)) → Rising (vector_order (records slots)) (vector (records slots)) (b ∷ bs) → in_order v (costs_at slots b 0) ≡ true
      → covered_by slots v bs ≡ false
  unfolding covered_by in_order at_most
  free-from b bs r h =
      none_any (λ c. at_most (costs_at slots c 0) v) bs
      (λ c m. refute (at_most (costs_at slots c 0) v) (in_order (costs_at slots c 0) (costs_at slots b 0))
      (λ k. dictionary-trans orderℤ (vector (records slots) c) (cost_values v) (vector (records slots) b) (at-most-before (costs_at slots c 0) v k) h) (r.0 c m))

  -- the pass finds whether a record is at most v, and v's place
  by-one-pass : (bs : List (List ℕ)) → Rising (vector_order (records slots)) (vector (records slots)) bs
      → ((b : List ℕ) → b ∈ bs → at_most (costs_at slots b 0) v ≡ true → le_z v.sum (costs_at slots b 0).sum ≡ true)
      → free_place slots v bs ≡ cond (covered_by slots v bs) (suc (length bs)) (place_of slots v bs)
  unfolding free_place covered_by place_of
  by-one-pass [] r h = refl
  by-one-pass (b ∷ bs) r h =
      let w = costs_at slots b 0 in
      let ih = ap suc (by-one-pass bs r.1 (λ c m. h c (there m))) ∙ suc-cond (covered_by slots v bs) (suc (length bs)) (place_of slots v bs) in
      by-test (le_z v.sum w.sum)
      (λ d. by-test (at_most w v)
      (λ e. rw (d, e) refl)
      (λ e. by-test (in_order v w) (λ f. rw (d, e, f, free-from b bs r f)) (λ f. rw (d, e, f) ih)))
      (λ d. rw (d, refute (at_most w v) (le_z v.sum w.sum) (h b (here refl)) d, in-order-higher v w d) ih)

  -- the pass that stops at a higher sum keeps what v is not at most
  pruned-early : (bs : List (List ℕ)) → Rising (vector_order (records slots)) (vector (records slots)) bs
      → ((b : List ℕ) → b ∈ bs → at_most v (costs_at slots b 0) ≡ true → le_z (costs_at slots b 0).sum v.sum ≡ true)
      → pruned_level slots v bs ≡ pruned_by slots v bs
  unfolding pruned_level pruned_by
  pruned-early [] r h = refl
  pruned-early (b ∷ bs) r h =
      let ih = pruned-early bs r.1 (λ c m. h c (there m)) in
      let w = costs_at slots b 0 in
      by-test (le_z w.sum v.sum)
      (λ d. by-test (at_most v w) (λ e. rw (d, e) ih) (λ e. rw (d, e) (ap (λ (l : List (List ℕ)). b ∷ l) ih)))
      (λ d. rw d (sym (filter-all (λ c. not (at_most v (costs_at slots c 0))) (b ∷ bs)
      (λ c m. ap not (refute (at_most v (costs_at slots c 0)) (le_z w.sum v.sum)
      (λ k. le_z-trans w.sum (costs_at slots c 0).sum v.sum (sums-rise slots b bs r c m) (h c m k)) d)))))

  module _ (bs : List (List ℕ)) (r : RecordsRise slots bs) (h : Level slots v bs) where
    one-pass : {t : Bool} → covered_by slots v bs ≡ t → free_place slots v bs ≡ cond t (suc (length bs)) (place_of slots v bs)
    one-pass e = by-one-pass bs r.rising h.none-lower ∙ ap (λ (t : Bool). cond t (suc (length bs)) (place_of slots v bs)) e

    -- beyond all: a record is at most v
    pub free-covered : length bs < free_place slots v bs → covered_by slots v bs ≡ true
    unfolding place_of
    free-covered k =
        by-test (covered_by slots v bs) (λ e. e) (λ e. let one = one-pass e in absurd (omega (arith, leading-few (λ b. in_order v (costs_at slots b 0)) bs)))

    -- else none is, and it is v's place
    pub free-place : free_place slots v bs ≤ length bs → (covered_by slots v bs ≡ false) × (free_place slots v bs ≡ place_of slots v bs)
    free-place k = by-test (covered_by slots v bs) (λ e. let one = one-pass e in absurd (omega arith)) (λ e. (e, one-pass e))

    -- from any place on, what v is not at most is what is left by sums
    pub pruned-behind : (i : ℕ) → pruned_level slots v (drop i bs) ≡ pruned_by slots v (drop i bs)
    pruned-behind i =
        pruned-early (drop i bs) (rising-drop (vector_order (records slots)) (vector (records slots)) i bs r.rising)
        (λ b m. h.none-higher b (drop-mem i bs m))
