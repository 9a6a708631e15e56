-- THE PLACES BY RISING KEY ARE KNOWN BY THEIR ORDER: numbers below the count of keys, as many as there are keys, that rise strictly by key and then by
-- number, are those places.
use Rattle.std.specs.Prelude.{Bool, ◌&&◌, ◌||◌, ◌⊎◌, ◌≡◌, ℕ, eqb, leb, ltb, length}
use Rattle.std.proofs.Math.Bool.{true, false, not}
use mathlib.Core.List.Memᴰ
use mathlib.Core.List.Memᴰ.{head as here}
use mathlib.Core.List.Memᴰ.{tail as there}
use mathlib.Core.List.{List, [], ◌∷◌}
use Rattle.std.proofs.Common.{inl, inr, sym, ap, ◌∙◌}
use Rattle.std.proofs.Math.Path.{refl, subst, subst⁻¹}
use native.Mathlib.Omega.{arith}
use borrow.Author.Tests.{eq-eqb, le-leb, le-ltb, leb-false, leb-true, lt-ltb, ltb-true, ne_eqb, not-true}
use Rattle.std.proofs.Math.ListN.{get_or}
use Rattle.std.specs.Ordering.{is_lt, is_some_and, nat_cmp, partial_lt, partial_ordering_then}
use Rattle.std.proofs.Common.{Some, Less, Equal, Greater, cond}
use Rattle.order.specs.Test.{by-test, clash, left}
use Rattle.order.proofs.Test.{both, fails, right, test_iff}
use Rattle.order.specs.Lists.{◌∈◌, all, numbers_from}
use Rattle.order.proofs.Lists.{all-mem}
use Rattle.order.specs.Order.{TotalOrder, dictionary, equal, orderℕ, pair_le, pairs}
use Rattle.order.proofs.Order.{equal→≡, less-le-trans, less→le, ≡→equal}
use Rattle.order.specs.Sorted.{Rising, sort}
use Rattle.order.proofs.Sorted.{numbers-mem, sort-mem}
use Rattle.network.specs.Indexing.{entries_from}
use Rattle.order.proofs.Numbers.{rising-numbers, sorted-numbers, tie-last}
use Rattle.order.specs.Columns.{places_by}
use Rattle.order.proofs.Columns.{numbers-alike}
use Rattle.index_lookup.specs.Entries.{AllBelow, entries-length, rises_by}

-- ---- definitions

-- number a stands before number b: its key is less, or the keys are equal and it is the lower number
unfoldable pub key_before : List ℕ → ℕ → ℕ → Bool
key_before keys a b = not (pair_le orderℕ orderℕ (get_or keys b 0, b) (get_or keys a 0, a))

-- a buffer's first entries, as many as there are keys, are the places by rising key
unfoldable pub holds_places : List ℕ → List ℕ → Bool
holds_places keys buffer = equal (dictionary orderℕ) (entries_from (length keys) 0 buffer) (places_by keys)

-- ---- by what the code finds

-- a pair that is not at most another
before-numbers : (v w a b : ℕ) → not (pair_le orderℕ orderℕ (w, b) (v, a)) ≡ ltb v w || (eqb v w && ltb a b)
before-numbers v w a b =
    by-test (leb w v)
    (λ p. let x = leb-true w v p in
    by-test (leb v w)
    (λ q. let y = leb-true v w q in
    let e = eq-eqb v w (omega arith) in
    by-test (leb b a)
    (λ r. rw (p, q, r, le-ltb v w x, e, le-ltb a b (leb-true b a r)))
    (λ r. rw (p, q, r, le-ltb v w x, e, lt-ltb a b (leb-false b a r))))
    (λ q. rw (p, q, le-ltb v w x, ne_eqb v w (λ e. omega (arith, leb-false v w q)))))
    (λ p. rw (p, lt-ltb v w (leb-false w v p)))

-- a test of pairs by those of their halves
pairs-by : (p q r s : Bool)
    → is_some_and is_lt (partial_ordering_then (Some (cond p Less (cond q Equal Greater))) (Some (cond r Less (cond s Equal Greater)))) ≡ p || (q && r)
pairs-by true q r s = refl
pairs-by false false r s = refl
pairs-by false true true s = refl
pairs-by false true false true = refl
pairs-by false true false false = refl

-- the test of two pairs, by their order
less-pairs : (v w a b : ℕ)
    → partial_lt (λ (x y : ℕ × ℕ). partial_ordering_then (Some (nat_cmp x.0 y.0)) (Some (nat_cmp x.1 y.1))) (v, a) (w, b) ≡ ltb v w || (eqb v w && ltb a b)
less-pairs v w a b = pairs-by (ltb v w) (eqb v w) (ltb a b) (eqb a b)

-- number a stands before number b by the code's test
pub before-by : (keys : List ℕ) (a b : ℕ)
    → partial_lt (λ (x y : ℕ × ℕ). partial_ordering_then (Some (nat_cmp x.0 y.0)) (Some (nat_cmp x.1 y.1))) (get_or keys a 0, a) (get_or keys b 0, b)
    ≡ key_before keys a b
unfolding key_before
before-by keys a b = less-pairs (get_or keys a 0) (get_or keys b 0) a b ∙ sym (before-numbers (get_or keys a 0) (get_or keys b 0) a b)

-- ---- what the tests mean

module _ {K : Type 0} (O : TotalOrder K) (key : ℕ → K) where
  -- x stands before y
  abbrev before : ℕ → ℕ → Bool
  before x y = not (O.le (key y) (key x))

  -- numbers that pass the test of each with the next one rise strictly
  rises-rising : (l : List ℕ) → rises_by before l ≡ true → Rising O key l
  unfolding rises_by
  rises-rising [] e = tt
  rises-rising (x ∷ []) e = (λ y m. elim m [ ], tt)
  rises-rising (x ∷ y ∷ l) e =
      let step = not-true (O.le (key y) (key x)) (left (before x y) (rises_by before (y ∷ l)) e) in
      let rest = rises-rising (y ∷ l) (right (before x y) (rises_by before (y ∷ l)) e) in
      (λ z m. go step rest z (Memᴰ.cases_cons m), rest)
    where
      go : O.le (key y) (key x) ≡ false → Rising O key (y ∷ l) → (z : ℕ) → (z ≡ y) ⊎ (z ∈ l) → O.le (key z) (key x) ≡ false
      go step rest z (inl q) = subst (λ (k : ℕ). O.le (key k) (key x) ≡ false) (sym q) step
      go step rest z (inr m) = less-le-trans O (key x) (key y) (key z) step (less→le O (key y) (key z) (rest.0 z m))

  -- and numbers that rise strictly pass it
  rising-rises : (l : List ℕ) → Rising O key l → rises_by before l ≡ true
  unfolding rises_by
  rising-rises [] r = refl
  rising-rises (x ∷ []) r = refl
  rising-rises (x ∷ y ∷ l) r = both (ap not (r.0 y (here refl))) (rising-rises (y ∷ l) r.1)

-- numbers below k pass the test of it
below_all : (k : ℕ) (l : List ℕ) → AllBelow k l → all (λ x. ltb x k) l ≡ true
below_all k [] h = refl
below_all k (x ∷ l) h = both (lt-ltb x k (h.below x (here refl))) (below_all k l (record { below = λ y m. h.below y (there m) }))

-- ---- the places by rising key

module _ (keys : List ℕ) where
  -- a number's key, and the number
  abbrev keyed : ℕ → ℕ × ℕ
  keyed r = (get_or keys r 0, r)

  -- the places by rising key are those by rising key and number: the sort keeps the order of equal keys
  places-keyed : places_by keys ≡ sort (pairs orderℕ orderℕ) keyed (numbers_from (length keys) 0)
  unfolding places_by
  places-keyed =
      numbers-alike orderℕ (λ r. get_or keys r 0) (pairs orderℕ orderℕ) keyed (length keys)
      (λ x y h b. rw (le-leb x y (omega arith)) (sym (tie-last (leb (get_or keys x 0) (get_or keys y 0)) (leb (get_or keys y 0) (get_or keys x 0)))))

  -- they rise strictly
  places-rising : Rising (pairs orderℕ orderℕ) keyed (places_by keys)
  places-rising =
      subst⁻¹ (Rising (pairs orderℕ orderℕ) keyed) places-keyed
      (sorted-numbers (pairs orderℕ orderℕ) keyed (length keys) (λ x y h g e. ap (λ (p : ℕ × ℕ). p.1) e))

  -- so many numbers below the count that do are no others
  places-known : (l : List ℕ) → length l ≡ length keys → AllBelow (length keys) l → Rising (pairs orderℕ orderℕ) keyed l → l ≡ places_by keys
  places-known l size h r =
      rising-numbers (pairs orderℕ orderℕ) keyed (length keys) (λ x y h g e. ap (λ (p : ℕ × ℕ). p.1) e) l size h.below r ∙ sym places-keyed

  -- each is below the count
  places-below : AllBelow (length keys) (places_by keys)
  unfolding places_by
  places-below =
      record { below = λ x m. let w = numbers-mem (length keys) 0 x (sort-mem orderℕ (λ r. get_or keys r 0) (numbers_from (length keys) 0) m) in omega arith }

-- ---- they pass both tests, and no other numbers do

module _ (keys buffer : List ℕ) where
  -- the entries of a buffer, as many as there are keys
  abbrev pub key_entries : List ℕ
  key_entries = entries_from (length keys) 0 buffer

  -- each is below the count
  abbrev pub all_below : Bool
  all_below = all (λ x. ltb x (length keys)) key_entries

  -- as a property
  pub entries_below : all_below ≡ true → AllBelow (length keys) key_entries
  entries_below e = record { below = λ x m. ltb-true x (length keys) (all-mem (λ x. ltb x (length keys)) key_entries e x m) }

  -- a buffer that holds the places has them as its entries
  entries-are : holds_places keys buffer ≡ true → key_entries ≡ places_by keys
  unfolding holds_places
  entries-are e = equal→≡ (dictionary orderℕ) key_entries (places_by keys) e

  -- and one that has them as its entries holds them
  are-entries : key_entries ≡ places_by keys → holds_places keys buffer ≡ true
  unfolding holds_places
  are-entries e = ≡→equal (dictionary orderℕ) key_entries (places_by keys) e

  -- where an entry is not below the count, the buffer does not hold them
  pub holds_not : all_below ≡ false → false ≡ holds_places keys buffer
  holds_not e =
      let below = below_all (length keys) (places_by keys) (places-below keys) in
      let passes : List ℕ → Type 0 = λ l. all (λ x. ltb x (length keys)) l ≡ true in
      sym (fails (holds_places keys buffer) (λ t. clash (subst passes (sym (entries-are t)) below) e))

  -- where each is, it holds them by whether the entries rise
  pub holds_by : {b : Bool} → all_below ≡ true → b ≡ rises_by (key_before keys) key_entries → b ≡ holds_places keys buffer
  unfolding key_before
  holds_by {b} e f = f ∙ test_iff (rises_by (key_before keys) key_entries) (holds_places keys buffer) (to, from)
    where
      to : rises_by (key_before keys) key_entries ≡ true → holds_places keys buffer ≡ true
      to r =
          are-entries (places-known keys key_entries (entries-length (length keys) 0 buffer) (entries_below e)
          (rises-rising (pairs orderℕ orderℕ) (keyed keys) key_entries r))

      from : holds_places keys buffer ≡ true → rises_by (key_before keys) key_entries ≡ true
      from t =
          subst (λ (l : List ℕ). rises_by (key_before keys) l ≡ true) (sym (entries-are t))
          (rising-rises (pairs orderℕ orderℕ) (keyed keys) (places_by keys) (places-rising keys))
