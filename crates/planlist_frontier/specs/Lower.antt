-- Records whose sums do not fall: how many of them have a lower sum, found by halving.
use Rattle.std.specs.Prelude.{◌≡◌, refl, Bool, true, false, cond, List, [], ◌∷◌, ℕ, zero, suc, ◌+◌, ◌*◌, ◌-◌, ◌≤◌, ◌<◌, ℤ, length, take, drop, get_or}
use Rattle.std.proofs.Common.{sym, ap, ◌∙◌, ⊎_elim, add-mul, eq-or-lt_of_le, mul-le-mul_right, suc-mul, zero-mul, arith, drop-drop}
use Rattle.std.specs.Int.Signed.{le_z}
use Rattle.order.specs.Test.{by-test}
use Rattle.order.proofs.Test.{refute}
use Rattle.order.specs.Order.{TotalOrder, le_z-trans, orderℤ}
use Rattle.order.proofs.Order.{le_refl}
use Rattle.order.proofs.Perm.{pairwise-at}
use Rattle.order.specs.Sorted.{Sorted}
use Rattle.network.specs.PlanList.{plan_size, plan_sum_at}
use Rattle.encoding.specs.Blocks.{blocks, length-blocks}
use Rattle.planlist_records.specs.Held.{sum-block}

-- ---- definitions

-- the sum that a record holds
abbrev pub record_sum : List ℕ → ℤ
record_sum b = plan_sum_at b 0

-- the sum of the record at a place
abbrev pub sum_at : List (List ℕ) → ℕ → ℤ
sum_at bs i = record_sum (get_or bs i [])

-- the sums of records do not fall
pub record SumsRise (bs : List (List ℕ)) : Type 0 where
  pub rise : Sorted orderℤ record_sum bs

-- the bytes hold `count` records, each with room for a sum, and the sums do not fall
pub record Ordered (size count : ℕ) (bs : List ℕ) : Type 0 where
  pub wide : plan_size 0 0 ≤ size
  pub room : count * size ≤ length bs
  pub sums : SumsRise (blocks size count bs)

-- the number of records before the first whose sum is not lower than x
unfoldable pub lower_sums : ℤ → List (List ℕ) → ℕ
lower_sums x [] = 0
lower_sums x (b ∷ bs) = let r = suc (lower_sums x bs) in cond (le_z x (record_sum b)) 0 r

-- the records before `low` have a lower sum than x, and those from `high` on have not
pub record Halved (x : ℤ) (bs : List (List ℕ)) (low high : ℕ) : Type 0 where
  pub before : (i : ℕ) → i < low → le_z x (sum_at bs i) ≡ false
  pub behind : (i : ℕ) → high ≤ i → i < length bs → le_z x (sum_at bs i) ≡ true

-- ---- records by their numbers

-- a record lies within
pub record-fits : (i n z : ℕ) {l : ℕ} → n * z ≤ l → i < n → i * z + z ≤ l
record-fits i n z h k = let m = mul-le-mul_right z k in let s = suc-mul i z in omega arith

-- the bytes of the first ones and of the others
pub records-split : (m n z : ℕ) → m ≤ n → m * z + (n - m) * z ≡ n * z
records-split m n z h = let e : m + (n - m) ≡ n = omega arith in sym (add-mul m (n - m) z) ∙ ap (λ (k : ℕ). k * z) e

-- the record at a place
block_at : (z n : ℕ) (bs : List ℕ) (i : ℕ) → i < n → get_or (blocks z n bs) i [] ≡ take z (drop (i * z) bs)
unfolding blocks
block_at z zero bs i h = absurd (omega arith)
block_at z (suc n) bs zero h = rw (zero-mul z)
block_at z (suc n) bs (suc i) h =
    let e : z + i * z ≡ suc i * z = let s = suc-mul i z in omega arith in
    block_at z n (drop z bs) i (omega arith) ∙ ap (take z) (drop-drop (i * z) z bs ∙ ap (λ (k : ℕ). drop k bs) e)

-- what compares with its sum
pub sum-tested : (x : ℤ) (z n : ℕ) (bs : List ℕ) (i : ℕ) {b : Bool} → plan_size 0 0 ≤ z → i < n
    → le_z x (plan_sum_at bs (i * z)) ≡ b → le_z x (sum_at (blocks z n bs) i) ≡ b
sum-tested x z n bs i w h e =
    ap (λ (r : List ℕ). le_z x (record_sum r)) (block_at z n bs i h) ∙ ap (le_z x) (sum-block bs (i * z) z w) ∙ e

-- of two members of a sorted list the earlier has no larger key
sorted-at : {K A : Type 0} (O : TotalOrder K) (key : A → K) (d : A) (l : List A) → Sorted O key l → (i j : ℕ) → i ≤ j → j < length l
    → O.le (key (get_or l i d)) (key (get_or l j d)) ≡ true
sorted-at O key d l s i j h k =
    ⊎_elim
    (λ (e : i ≡ j). rw e (le_refl O (key (get_or l j d))))
    (λ (g : i < j). pairwise-at (λ x y. O.le (key x) (key y) ≡ true) l s i j d g k)
    (eq-or-lt_of_le h)

-- ---- the halving

module _ (x : ℤ) (bs : List (List ℕ)) where
  pub halved-start : {high : ℕ} → length bs ≤ high → Halved x bs 0 high
  halved-start h = record { before = λ i k. absurd (omega arith); behind = λ i k l. absurd (omega arith) }

  module _ (r : SumsRise bs) {low high : ℕ} (h : Halved x bs low high) (mid : ℕ) (m : mid < length bs) where
    -- where the record in the middle has no lower sum, nor have those behind it
    pub halved-front : le_z x (sum_at bs mid) ≡ true → Halved x bs low mid
    halved-front e = record {
      before = h.before;
      behind = λ i k l. le_z-trans x (sum_at bs mid) (sum_at bs i) e (sorted-at orderℤ record_sum [] bs r.rise mid i k l);
    }

    -- and where it has, so have those before it
    pub halved-back : {up : ℕ} → high ≤ up → le_z x (sum_at bs mid) ≡ false → Halved x bs (mid + 1) up
    halved-back u e = record {
      before = λ i k.
          refute (le_z x (sum_at bs i)) (le_z x (sum_at bs mid))
          (λ t. le_z-trans x (sum_at bs i) (sum_at bs mid) t (sorted-at orderℤ record_sum [] bs r.rise i mid (omega arith) m)) e;
      behind = λ i k l. h.behind i (omega arith) l;
    }

-- where the two meet, it is that number
pub halved-end : (x : ℤ) (bs : List (List ℕ)) (low : ℕ) {high : ℕ} → Halved x bs low high → high ≡ low → low ≤ length bs → low ≡ lower_sums x bs
unfolding lower_sums
halved-end x [] low h e l = omega arith
halved-end x (b ∷ bs) zero h e l = rw (h.behind 0 (omega arith) (omega arith))
halved-end x (b ∷ bs) (suc low) h e l =
    rw (h.before 0 (omega arith)) (ap suc (halved-end x bs low {high = low} (record {
      before = λ i k. h.before (suc i) (omega arith);
      behind = λ i k m. h.behind (suc i) (omega arith) (omega arith);
    }) refl (omega arith)))

-- there are no more of them than records
pub lower-few : (x : ℤ) (bs : List (List ℕ)) → lower_sums x bs ≤ length bs
unfolding lower_sums
lower-few x [] = omega arith
lower-few x (b ∷ bs) = let ih = lower-few x bs in by-test (le_z x (record_sum b)) (λ e. rw e (omega arith)) (λ e. rw e (omega arith))

-- behind them no record has a lower sum
lower-behind : (x : ℤ) (bs : List (List ℕ)) → Sorted orderℤ record_sum bs → (i : ℕ) → lower_sums x bs ≤ i → i < length bs → le_z x (sum_at bs i) ≡ true
unfolding lower_sums
lower-behind x [] r i h k = absurd (omega arith)
lower-behind x (b ∷ bs) r i h k =
    by-test (le_z x (record_sum b))
    (λ e. le_z-trans x (record_sum b) (sum_at (b ∷ bs) i) e (sorted-at orderℤ record_sum [] (b ∷ bs) r 0 i (omega arith) k))
    (λ e. later (λ j m l. lower-behind x bs r.1 j m l) i (rw e at h) k)
  where
    later : ((j : ℕ) → lower_sums x bs ≤ j → j < length bs → le_z x (sum_at bs j) ≡ true) → (i : ℕ) → suc (lower_sums x bs) ≤ i → i < suc (length bs)
        → le_z x (sum_at (b ∷ bs) i) ≡ true
    later ih zero h k = absurd (omega arith)
    later ih (suc j) h k = ih j (omega arith) (omega arith)

pub no-lower : (x : ℤ) (z n : ℕ) (bs : List ℕ) (i : ℕ) → Ordered z n bs → lower_sums x (blocks z n bs) ≤ i → i < n → le_z x (plan_sum_at bs (i * z)) ≡ true
no-lower x z n bs i o h k =
    ap (le_z x) (sym (ap record_sum (block_at z n bs i k) ∙ sum-block bs (i * z) z o.wide))
    ∙ lower-behind x (blocks z n bs) o.sums.rise i h (omega (arith, length-blocks z n bs))
