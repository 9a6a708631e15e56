-- The entries of a list whose places pass a test, and the first place that does.
use Rattle.std.specs.Prelude.{Bool, true, false, ◌≡◌, eqb, length, get_or}
use mathlib.Core.List.{List, [], ◌∷◌}
use Rattle.std.proofs.Math.Path.{refl, fun_ext}
use Rattle.std.proofs.Common.{ap, ◌∙◌, le-ltb, lt-ltb, ne_eqb}
use Prim.Native.Nat.{ℕ, zero, suc, ◌+◌, ◌-◌, ◌≤◌, ◌<◌}
use Rattle.std.proofs.Math.Nat.{sub-zero}
use Rattle.std.proofs.Math.Numerals.{add-one}
use native.Mathlib.Omega.{arith}
use Rattle.std.proofs.Math.Dec.{eqb-suc-suc, eqb-suc-zero, eqb-zero-suc, leb-suc-suc}
use Rattle.order.specs.Test.{by-test}
use Rattle.order.specs.Perm.{sum}
use Rattle.spanning.specs.Places.{at_places, first_place, other, other_two, place_from, weight_at}

-- ---- counted from the next place on

pub first_next : (p : ℕ → Bool) (k n : ℕ) → first_place p (suc k) n ≡ suc (first_place (λ i. p (suc i)) k n)
unfolding first_place
first_next p k zero = refl
first_next p k (suc n) = by-test (p (suc k)) (λ e. rw e) (λ e. rw e (first_next p (suc k) n))

-- tests that agree at all places
pub first-same : (p q : ℕ → Bool) (k n : ℕ) → ((i : ℕ) → k ≤ i → i < k + n → p i ≡ q i) → first_place p k n ≡ first_place q k n
unfolding first_place
first-same p q k zero h = refl
first-same p q k (suc n) h =
    rw (h k (omega arith) (omega arith), first-same p q (suc k) n (λ i a b. h i (omega arith) (omega arith)))

pub from_start : (p : ℕ → Bool) (n : ℕ) → place_from p n 0 ≡ first_place p 0 n
unfolding place_from
from_start p n = rw (sub-zero n)

module _ (p : ℕ → Bool) (n k : ℕ) where
  rest_of : k < n → n - k ≡ suc (n - (k + 1))
  rest_of h = omega arith

  pub from_next : k < n → p k ≡ false → place_from p n k ≡ place_from p n (k + 1)
  unfolding place_from first_place
  from_next h e = rw (rest_of h, e, add-one k)

  pub from_found : k < n → p k ≡ true → place_from p n k ≡ k
  unfolding place_from first_place
  from_found h e = rw (rest_of h, e)

  pub from_end : n ≤ k → place_from p n k ≡ k
  unfolding place_from first_place
  from_end h = let z : n - k ≡ 0 = omega arith in rw z

module _ {A : Type 0} where
  pub places-next : (p : ℕ → Bool) (k : ℕ) (l : List A) → at_places p (suc k) l ≡ at_places (λ i. p (suc i)) k l
  unfolding at_places
  places-next p k [] = refl
  places-next p k (x ∷ l) = rw (places-next p (suc k) l)

  pub places_same : (p q : ℕ → Bool) (k : ℕ) (l : List A) → ((i : ℕ) → p i ≡ q i) → at_places p k l ≡ at_places q k l
  places_same p q k l h = ap (λ (t : ℕ → Bool). at_places t k l) (fun_ext h)

  -- a test that passes at every place
  pub places-all : (p : ℕ → Bool) (k : ℕ) (l : List A) → ((i : ℕ) → p i ≡ true) → at_places p k l ≡ l
  unfolding at_places
  places-all p k [] h = refl
  places-all p k (x ∷ l) h = rw (h k) (ap (◌∷◌ x) (places-all p (suc k) l h))

  -- ---- a list without one entry, and without two

  pub without-first : (x : A) (l : List A) → at_places (other 0) 0 (x ∷ l) ≡ l
  unfolding at_places
  without-first x l = places-next (other 0) 0 l ∙ places-all (λ i. other 0 (suc i)) 0 l (λ i. rw (eqb-suc-zero i))

  pub without-later : (i : ℕ) (x : A) (l : List A) → at_places (other (suc i)) 0 (x ∷ l) ≡ x ∷ at_places (other i) 0 l
  unfolding at_places
  without-later i x l =
      rw (eqb-zero-suc i)
      (ap (◌∷◌ x) (places-next (other (suc i)) 0 l ∙ places_same (λ k. other (suc i) (suc k)) (other i) 0 l (λ k. rw (eqb-suc-suc k i))))

  pub two-first : (j : ℕ) (x : A) (l : List A) → at_places (other_two 0 (suc j)) 0 (x ∷ l) ≡ at_places (other j) 0 l
  unfolding at_places
  two-first j x l =
      places-next (other_two 0 (suc j)) 0 l
      ∙ places_same (λ k. other_two 0 (suc j) (suc k)) (other j) 0 l (λ k. rw (eqb-suc-zero k, eqb-suc-suc k j))

  pub two-second : (i : ℕ) (x : A) (l : List A) → at_places (other_two (suc i) 0) 0 (x ∷ l) ≡ at_places (other i) 0 l
  unfolding at_places
  two-second i x l =
      rw (eqb-zero-suc i)
      (places-next (other_two (suc i) 0) 0 l
      ∙ places_same (λ k. other_two (suc i) 0 (suc k)) (other i) 0 l
      (λ k. rw (eqb-suc-zero k, eqb-suc-suc k i) (by-test (eqb k i) (λ e. rw e) (λ e. rw e))))

  pub two-later : (i j : ℕ) (x : A) (l : List A) → at_places (other_two (suc i) (suc j)) 0 (x ∷ l) ≡ x ∷ at_places (other_two i j) 0 l
  unfolding at_places
  two-later i j x l =
      rw (eqb-zero-suc i, eqb-zero-suc j)
      (ap (◌∷◌ x) (places-next (other_two (suc i) (suc j)) 0 l
      ∙ places_same (λ k. other_two (suc i) (suc j) (suc k)) (other_two i j) 0 l (λ k. rw (eqb-suc-suc k i, eqb-suc-suc k j))))

  -- a place past the end leaves out nothing
  past_end : (i j k : ℕ) (l : List A) → k + length l ≤ j → at_places (other_two i j) k l ≡ at_places (other i) k l
  unfolding at_places
  past_end i j k [] h = refl
  past_end i j k (x ∷ l) h =
      rw (ne_eqb k j (λ e. omega arith), past_end i j (suc k) l (omega arith)) (by-test (eqb k i) (λ e. rw e) (λ e. rw e))

  pub two_past : (i j : ℕ) (l : List A) → length l ≤ j → at_places (other_two i j) 0 l ≡ at_places (other i) 0 l
  two_past i j l h = past_end i j 0 l (omega arith)

-- ---- what is left, and what the entries left out weigh

module _ (w : ℕ → ℕ) where
  pub weight-at : (l : List ℕ) (i : ℕ) → i < length l → weight_at w l i ≡ w (get_or l i 0)
  unfolding weight_at
  weight-at l i h = rw (lt-ltb i (length l) h)

  pub weight-none : (l : List ℕ) (i : ℕ) → length l ≤ i → weight_at w l i ≡ 0
  unfolding weight_at
  weight-none l i h = rw (le-ltb i (length l) h)

  weight-later : (x : ℕ) (l : List ℕ) (i : ℕ) → weight_at w (x ∷ l) (suc i) ≡ weight_at w l i
  unfolding weight_at
  weight-later x l i = rw (leb-suc-suc (suc i) (length l))

  pub sum-without : (l : List ℕ) (i : ℕ) → sum w (at_places (other i) 0 l) + weight_at w l i ≡ sum w l
  unfolding at_places
  sum-without [] i = rw (weight-none [] i (omega arith))
  sum-without (x ∷ l) zero = rw (without-first x l) (omega (arith, weight-at (x ∷ l) 0 (omega arith)))
  sum-without (x ∷ l) (suc i) = rw (without-later i x l, weight-later x l i) (omega (arith, sum-without l i))

  pub sum-without-two : (l : List ℕ) (i j : ℕ) → (i ≡ j → length l ≤ i)
      → sum w (at_places (other_two i j) 0 l) + (weight_at w l i + weight_at w l j) ≡ sum w l
  unfolding at_places
  sum-without-two [] i j h = rw (weight-none [] i (omega arith), weight-none [] j (omega arith))
  sum-without-two (x ∷ l) zero zero h = absurd (omega (arith, h refl))
  sum-without-two (x ∷ l) zero (suc j) h =
      rw (two-first j x l, weight-later x l j) (omega (arith, weight-at (x ∷ l) 0 (omega arith), sum-without l j))
  sum-without-two (x ∷ l) (suc i) zero h =
      rw (two-second i x l, weight-later x l i) (omega (arith, weight-at (x ∷ l) 0 (omega arith), sum-without l i))
  sum-without-two (x ∷ l) (suc i) (suc j) h =
      rw (two-later i j x l, weight-later x l i, weight-later x l j)
      (omega (arith, sum-without-two l i j (λ e. let k = h (ap suc e) in omega arith)))

-- the number of entries is what they weigh where each weighs 1
pub length-sum : (l : List ℕ) → length l ≡ sum (λ x. 1) l
length-sum [] = refl
length-sum (x ∷ l) = omega (arith, length-sum l)
