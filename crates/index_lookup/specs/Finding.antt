-- A lookup by the keys of plans, which is the lookup in the list.
use Rattle.std.specs.Prelude as Std
use Rattle.std.specs.Option.{ok_or}
use Rattle.std.specs.Prelude.{None, Some, Ok, Err, is_ok, not, Bool, true, false, ◌≡◌, refl, ℕ, ◌≤◌, ◌<◌, ℤ}
use Rattle.std.proofs.Math.Bool.{cond}
use mathlib.Core.List.Memᴰ.{head as here}
use mathlib.Core.List.Memᴰ.{tail as there}
use mathlib.Core.List.{List, [], ◌∷◌}
use Rattle.std.proofs.Math.Option.{Option, none, some}
use Rattle.std.proofs.Math.Path.{sym, ap, ap₂}
use Rattle.std.proofs.Common.{◌∙◌, arith, SFits}
use borrow.Author.Tests.{le-ltb, lt-ltb}
use Rattle.std.proofs.Math.Dec.{leb}
use Rattle.std.proofs.Math.ListN.{get_or, length}
use mir.Syntax.{w16}
use Rattle.order.specs.Test.{by-test, clash}
use Rattle.order.specs.Lists.{◌∈◌, all, numbers_from}
use Rattle.order.specs.Order.{TotalOrder, dictionary, equal, orderℕ, orderℤ}
use Rattle.order.proofs.Sorted.{numbers-mem}
use Rattle.order.specs.Least.{better, least}
use Rattle.order.proofs.Least.{least-some}
use Rattle.network.specs.Bytes.{bits_of}
use Rattle.network.specs.Checked.{refuse_if, ◌or_else◌}
use Rattle.network.specs.Fetching.{damaged, head_count, is_marked}
use Rattle.network.specs.Indexing.{cheapest, declined, entries_from, found_by, found_plan, index_checked, index_need, is_index, looked_up, lookup_checked}
use Rattle.network.specs.Indexing.{meets, plan_numbers, plan_sum, unfit}
use Rattle.network.specs.Checked.{Checked, Found}
use Rattle.network.specs.declared.refusals.Refusal.{Refusal}
use Rattle.network.specs.declared.refusals.Rule.TheVariants.{DamagedList, NoSuchPlan, ShortIndex}
use Rattle.order.specs.Columns.{places_by, tabled}
use Rattle.order.proofs.Columns.{tabled-at, tabled-length}
use Rattle.index_keys.specs.Key.{plan_key, raised16, sum_in, y1_in}
use Rattle.index_keys.specs.Order.{AllBytes, meets-key, sum-key}
use Rattle.index_building.specs.Built.{places-index}
use Rattle.index_building.specs.Replies.{unfit-unmarked}
use Rattle.index_lookup.specs.Known.{holds_places}
use Rattle.index_lookup.specs.Search.{cheapest_by, key_meets, key_sum, plan_in}

-- what is found by keys: the cheapest plan or 13, where the buffer holds the plan numbers by rising key, and else 12
unfoldable pub found_in : List ℕ → List ℕ → ℤ → Found
found_in keys buffer y = cond (holds_places keys buffer) (found_plan (cheapest_by keys (raised16 (bits_of w16 y)))) (declined DamagedList)

-- ---- by what the code finds

module _ (keys buffer : List ℕ) (y : ℤ) where
  pub found-other : holds_places keys buffer ≡ false → declined DamagedList ≡ found_in keys buffer y
  unfolding found_in
  found-other e = rw e

  -- the cheapest plan, or that there is none
  pub found-by : (o : Std.Option ℕ) → holds_places keys buffer ≡ true → cheapest_by keys (raised16 (bits_of w16 y)) ≡ plan_in o
      → ok_or o (record { rule = NoSuchPlan; place = 0 }) ≡ found_in keys buffer y
  unfolding found_in found_plan plan_in
  found-by None e q = rw (e, q)
  found-by (Some r) e q = rw (e, q)

-- ---- the least by costs that compare alike

least-alike : {C D A : Type 0} (O : TotalOrder C) (f : A → C) (Q : TotalOrder D) (g : A → D) (p q : A → Bool) (l : List A)
    → ((x y : A) → x ∈ l → y ∈ l → O.le (f x) (f y) ≡ Q.le (g x) (g y)) → ((x : A) → x ∈ l → p x ≡ q x) → least O f p l ≡ least Q g q l
least-alike O f Q g p q [] h k = refl
least-alike {A = A} O f Q g p q (x ∷ l) h k =
    ap₂ (λ (t : Bool) (o : Option A). cond t (better O f x o) o) (k x (here refl))
    (least-alike O f Q g p q l (λ y z m n. h y z (there m) (there n)) (λ y m. k y (there m)))
    ∙ ap (λ (o : Option A). cond (q x) o (least Q g q l)) (go (least Q g q l) refl)
  where
    go : (o : Option A) → least Q g q l ≡ o → better O f x o ≡ better Q g x o
    go none e = refl
    go (some y) e = ap (λ (t : Bool). cond t (some x) (some y)) (h x y (here refl) (there (least-some Q g q l y e).member))

-- ---- the lookup, by what the code finds

module _ (list buffer : List ℕ) (y : ℤ) where
  -- 12: the list is not fit
  pub looked-unfit : unfit list ≡ true → declined DamagedList ≡ looked_up list buffer y
  unfolding looked_up lookup_checked index_checked refuse_if ◌or_else◌ found_by
  looked-unfit e = rw e

  module _ (fit : unfit list ≡ false) where
    -- 16: the buffer is short
    pub looked-short : length buffer < index_need list → declined ShortIndex ≡ looked_up list buffer y
    unfolding looked_up lookup_checked index_checked refuse_if ◌or_else◌ found_by
    looked-short h = rw (fit, lt-ltb (length buffer) (index_need list) h)

    module _ (room : index_need list ≤ length buffer) where
      -- 12: it does not hold the index
      pub looked-other : is_index list buffer ≡ false → declined DamagedList ≡ looked_up list buffer y
      unfolding looked_up lookup_checked index_checked refuse_if ◌or_else◌ found_by
      looked-other e = rw (fit, le-ltb (length buffer) (index_need list) room, e)

      -- else the cheapest plan, or 13
      pub looked-held : is_index list buffer ≡ true → found_plan (cheapest list y) ≡ looked_up list buffer y
      unfolding looked_up lookup_checked index_checked refuse_if ◌or_else◌ found_by
      looked-held e = rw (fit, le-ltb (length buffer) (index_need list) room, e)

-- the refusal of a check, if there is one
refusal_in : Checked → Refusal → Refusal
refusal_in (Ok u) r = r
refusal_in (Err e) r = e

-- what reading the keys refuses is refused
pub looked-refused : (list buffer : List ℕ) (y : ℤ) → damaged list ≡ false → {r : Checked} → r ≡ refuse_if (not (all (is_marked list) (plan_numbers list))) DamagedList 0
    → {e : Refusal} → r ≡ Err e → Err e ≡ looked_up list buffer y
unfolding refuse_if refusal_in
looked-refused list buffer y intact marked refused =
    by-test (all (is_marked list) (plan_numbers list))
    (λ t. clash refl (ap is_ok (sym (rw t at marked) ∙ refused)))
    (λ t.
    let damage : Refusal = record { rule = DamagedList; place = 0 } in
    ap (λ (x : Refusal). Err x) (ap (λ (c : Checked). refusal_in c damage) (sym refused ∙ rw t at marked))
    ∙ looked-unfit list buffer y (unfit-unmarked list intact t))

-- ---- by the keys of the plans

module _ (list : List ℕ) (bytes : AllBytes list) {keys : List ℕ} (filled : keys ≡ tabled (plan_key list) (head_count list)) where
  -- a buffer that holds the numbers by rising key holds the index
  holds-index : (buffer : List ℕ) → holds_places keys buffer ≡ is_index list buffer
  unfolding holds_places is_index
  holds-index buffer =
      ap₂ (λ (n : ℕ) (l : List ℕ). equal (dictionary orderℕ) (entries_from n 0 buffer) l)
      (ap length filled ∙ tabled-length (plan_key list) (head_count list)) (ap places_by filled ∙ places-index list bytes)

  -- the cheapest by keys is the cheapest
  found-cheapest : (y : ℤ) → SFits w16 y → cheapest_by keys (raised16 (bits_of w16 y)) ≡ cheapest list y
  unfolding cheapest_by cheapest
  found-cheapest y fits =
      let n = head_count list in
      let column = tabled (plan_key list) n in
      let bound = raised16 (bits_of w16 y) in
      ap (λ (l : List ℕ). least orderℕ (key_sum l) (key_meets l bound) (numbers_from (length l) 0)) filled
      ∙ ap (λ (k : ℕ). least orderℕ (key_sum column) (key_meets column bound) (numbers_from k 0)) (tabled-length (plan_key list) n)
      ∙ least-alike orderℕ (key_sum column) orderℤ (plan_sum list) (key_meets column bound) (meets list y) (plan_numbers list)
      (λ x z m k. ap₂ (λ (a b : ℕ). leb (sum_in a) (sum_in b)) (key x m) (key z k) ∙ sym (sum-key list bytes x z))
      (λ x m. ap (λ (a : ℕ). leb (y1_in a) bound) (key x m) ∙ sym (meets-key list bytes y fits x))
    where
      key : (x : ℕ) → x ∈ plan_numbers list → get_or (tabled (plan_key list) (head_count list)) x 0 ≡ plan_key list x
      key x m = let w = numbers-mem (head_count list) 0 x m in tabled-at (plan_key list) (head_count list) x (omega arith)

  -- the lookup by keys is the lookup in the list
  pub found-list : (buffer : List ℕ) (y : ℤ) → SFits w16 y → unfit list ≡ false → index_need list ≤ length buffer →
      found_in keys buffer y ≡ looked_up list buffer y
  unfolding found_in
  found-list buffer y fits fit room =
      ap₂ (λ (t : Bool) (o : Option ℕ). cond t (found_plan o) (declined DamagedList)) (holds-index buffer) (found-cheapest y fits)
      ∙ by-test (is_index list buffer) (λ e. rw e (looked-held list buffer y fit room e)) (λ e. rw e (looked-other list buffer y fit room e))
