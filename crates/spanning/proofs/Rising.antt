-- Strictly rising lists of numbers in a range, by which a set of edge numbers is written in one way only, and the dictionary order of lists of numbers.
use Rattle.std.specs.Prelude.{Bool, true, ◌&&◌, List, [], ◌∷◌, ◌↔◌, ◌⊎◌, ◌≡◌, refl, ℕ, suc, ◌+◌, ◌≤◌, ◌<◌, zero, leb, ltb}
use mathlib.Core.List.Memᴰ
use mathlib.Core.List.Memᴰ.{head as here}
use mathlib.Core.List.Memᴰ.{tail as there}
use mathlib.Core.List.Sublistᴰ
use mathlib.Core.List.{Sublistᴰ}
use Rattle.std.proofs.Common.{inl, inr, ⊎_elim, sym, arith, le-leb, ltb-true, lt-ltb, leb-true, leb-false}
use Rattle.std.proofs.lemmas.Bool.{lt-leb}
use Rattle.order.specs.Test.{by-test, clash, left}
use Rattle.order.proofs.Test.{both, right}
use Rattle.order.specs.Lists.{◌∈◌, numbers_from}
use Rattle.order.proofs.Order.{dictionary-antisym}
use Rattle.order.specs.Order.{dictionary_le, leb-antisym, orderℕ}
use Rattle.order.proofs.Order.{dictionary-less, less-first, less-rest}
use Rattle.order.specs.Sorted.{Rising}
use Rattle.spanning.specs.Rising.{Before, RisingIn, is_rising_in}

-- two numbers, and two lists, compared
pub trichotomy : (a b : ℕ) → (a < b) ⊎ ((a ≡ b) ⊎ (b < a))
trichotomy a b =
    by-test {P = (a < b) ⊎ ((a ≡ b) ⊎ (b < a))} (leb b a)
    (λ p. by-test {P = (a < b) ⊎ ((a ≡ b) ⊎ (b < a))} (leb a b) (λ q. inr (inl (leb-antisym a b q p))) (λ q. inr (inr (leb-false a b q))))
    (λ p. inl (leb-false b a p))

pub before-or-after : (xs ys : List ℕ) → Before xs ys ⊎ ((xs ≡ ys) ⊎ Before ys xs)
before-or-after xs ys =
    by-test {P = Before xs ys ⊎ ((xs ≡ ys) ⊎ Before ys xs)} (dictionary_le orderℕ ys xs)
    (λ p. by-test {P = Before xs ys ⊎ ((xs ≡ ys) ⊎ Before ys xs)} (dictionary_le orderℕ xs ys)
    (λ q. inr (inl (dictionary-antisym orderℕ xs ys q p)))
    (λ q. inr (inr q)))
    (λ p. inl p)

-- by the first numbers
pub before-less : (x y : ℕ) (xs ys : List ℕ) → x < y → Before (x ∷ xs) (y ∷ ys)
before-less x y xs ys h = less-first orderℕ x y xs ys (lt-leb y x h)

pub before_same : (x : ℕ) (xs ys : List ℕ) → Before xs ys → Before (x ∷ xs) (x ∷ ys)
before_same x xs ys b = less-rest orderℕ x xs ys b

pub before-cases : (x y : ℕ) (xs ys : List ℕ) → Before (x ∷ xs) (y ∷ ys) → (x < y) ⊎ ((x ≡ y) × Before xs ys)
before-cases x y xs ys b = go (trichotomy x y)
  where
    go : (x < y) ⊎ ((x ≡ y) ⊎ (y < x)) → (x < y) ⊎ ((x ≡ y) × Before xs ys)
    go (inl h) = inl h
    go (inr (inl p)) = inr (p, rw (le-leb y x (omega arith), le-leb x y (omega arith)) at b)
    go (inr (inr h)) = clash (dictionary-less orderℕ y x ys xs (lt-leb x y h)) b

-- a smaller least number
pub rising-weaken : (j k m : ℕ) (xs : List ℕ) → j ≤ k → RisingIn k m xs → RisingIn j m xs
rising-weaken j k m [] h r = tt
rising-weaken j k m (x ∷ xs) h r = (omega arith, r.1, r.2)

-- RisingIn says: each number is at least k and below m, and the list rises strictly
pub rising-range : (k m : ℕ) (xs : List ℕ) → RisingIn k m xs → (x : ℕ) → x ∈ xs → (k ≤ x) × (x < m)
rising-range k m [] r y t = elim t [ ]
rising-range k m (x ∷ xs) r y t =
    ⊎_elim {C = (k ≤ y) × (y < m)}
    (λ p. (omega arith, omega arith))
    (λ j. let b = rising-range (suc x) m xs r.2 y j in (omega arith, b.1))
    (Memᴰ.cases_cons t)

pub rising-in : (k m : ℕ) (xs : List ℕ) → RisingIn k m xs → Rising orderℕ (λ x. x) xs
rising-in k m [] r = tt
rising-in k m (x ∷ xs) r = (λ y t. lt-leb y x (rising-range (suc x) m xs r.2 y t).0, rising-in (suc x) m xs r.2)

pub in-rising : (k m : ℕ) (xs : List ℕ) → ((x : ℕ) → x ∈ xs → (k ≤ x) × (x < m)) → Rising orderℕ (λ x. x) xs → RisingIn k m xs
in-rising k m [] h p = tt
in-rising k m (x ∷ xs) h p =
    let b = h x (here refl) in
    (b.0, b.1, in-rising (suc x) m xs (λ y t. (leb-false y x (p.0 y t), (h y (there t)).1)) p.1)

pub is_rising_in-iff : (k m : ℕ) (xs : List ℕ) → (is_rising_in k m xs ≡ true) ↔ RisingIn k m xs
is_rising_in-iff k m [] = (λ t. tt, λ t. refl)
is_rising_in-iff k m (x ∷ xs) =
    let ih = is_rising_in-iff (suc x) m xs in
    let r : Bool = is_rising_in (suc x) m xs in (
      λ t. let u = right (leb k x) (ltb x m && r) t in
          (leb-true k x (left (leb k x) (ltb x m && r) t), ltb-true x m (left (ltb x m) r u), ih.0 (right (ltb x m) r u)),
      λ h. both (le-leb k x h.0) (both (lt-ltb x m h.1) (ih.1 h.2)),
    )

-- so it is a subsequence of the numbers of the range
pub rising-sublist : (r k m : ℕ) (xs : List ℕ) → k + r ≡ m → RisingIn k m xs → Sublistᴰ xs (numbers_from r k)
unfolding numbers_from
rising-sublist zero k m [] e p = Sublistᴰ.slnil
rising-sublist zero k m (x ∷ xs) e p = absurd (omega arith)
rising-sublist (suc r) k m [] e p = Sublistᴰ.nil-sublist (k ∷ numbers_from r (suc k))
rising-sublist (suc r) k m (x ∷ xs) e p =
    go (rising-sublist r (suc k) m xs (omega arith)) (rising-sublist r (suc k) m (x ∷ xs) (omega arith)) (trichotomy k x)
  where
    go : (RisingIn (suc k) m xs → Sublistᴰ xs (numbers_from r (suc k))) → (RisingIn (suc k) m (x ∷ xs) → Sublistᴰ (x ∷ xs) (numbers_from r (suc k)))
        → (k < x) ⊎ ((k ≡ x) ⊎ (x < k)) → Sublistᴰ (x ∷ xs) (k ∷ numbers_from r (suc k))
    go same later (inl h) = Sublistᴰ.cons (later (h, p.1, p.2))
    go same later (inr (inl q)) = Sublistᴰ.cons-cons (sym q) (same (rising-weaken (suc k) (suc x) m xs (omega arith) p.2))
    go same later (inr (inr h)) = absurd (omega arith)
