-- The numbers below n by rising keys: n numbers below n whose keys rise strictly are the numbers below n, sorted. For n different numbers below n are all
-- of them.
use Rattle.std.specs.Prelude.{Bool, true, false, List, [], ◌∷◌, ◌⊎◌, ◌≡◌, refl, ℕ, zero, suc, ◌+◌, ◌≤◌, ◌<◌, eqb, length}
use mathlib.Core.List.Memᴰ
use mathlib.Core.List.Memᴰ.{head as here}
use mathlib.Core.List.Memᴰ.{tail as there}
use Rattle.std.proofs.Common.{inl, inr, ⊎_elim, sym, ap, subst, eq-or-lt_of_le, arith, eq-eqb, ne_eqb}
use Rattle.order.specs.Lists.{◌∈◌, ◌⊆◌, count, numbers_from}
use Rattle.order.proofs.Lists.{count_none, length-nil}
use Rattle.order.specs.Perm.{Perm}
use Rattle.order.proofs.Perm.{mem-front, pairwise-imp, perm-length, perm-⊆}
use Rattle.order.specs.Order.{TotalOrder, orderℕ, tie_break}
use Rattle.order.specs.Sorted.{Apart, Rising}
use Rattle.order.proofs.Sorted.{mem-numbers, mem-sort, numbers-length, numbers-mem, numbers-rising, rising-apart, rising-unique}
use Rattle.order.specs.Sorted.{sort}
use Rattle.order.proofs.Sorted.{sort-mem, sort-rising}
use Rattle.order.specs.Numbers.{Telling}

-- ---- different members, all in another list

module _ {A : Type 0} where
  -- the later members stand in what is left of the other list where the first is taken out
  others : (x : A) (l m rest : List A) → ((y : A) → y ∈ l → ¬ (y ≡ x)) → Perm m (x ∷ rest) → x ∷ l ⊆ m → l ⊆ rest
  others x l m rest apart p h a n = go (Memᴰ.cases_cons (perm-⊆ p a (h a (there n))))
    where
      go : (a ≡ x) ⊎ (a ∈ rest) → a ∈ rest
      go (inl e) = absurd (apart a n e)
      go (inr k) = k

  -- where the other list is no longer, it has no other members
  apart-full : (l m : List A) → Apart (λ x. x) l → l ⊆ m → length m ≤ length l → m ⊆ l
  apart-full [] m apart h long k n = subst (λ (l : List A). k ∈ l) (length-nil m long) n
  apart-full (x ∷ l) m apart h long k n =
      let w = mem-front (h x (here refl)) in
      let size = perm-length w.1 in
      go (apart-full l w.0 apart.1 (others x l m w.0 apart.0 w.1 h) (omega arith) k) (Memᴰ.cases_cons (perm-⊆ w.1 k n))
    where
      go : {rest : List A} → (k ∈ rest → k ∈ l) → (k ≡ x) ⊎ (k ∈ rest) → k ∈ x ∷ l
      go later (inl e) = here e
      go later (inr j) = there (later j)

-- ---- the numbers below n

module _ {K : Type 0} (O : TotalOrder K) (key : ℕ → K) (n : ℕ) (tell : Telling key n) where
  -- sorted, they rise strictly
  pub sorted-numbers : Rising O key (sort O key (numbers_from n 0))
  sorted-numbers =
      sort-rising O key (numbers_from n 0)
      (go (numbers_from n 0) (λ x m. let w = (numbers-mem n 0 x m).1 in omega arith) (rising-apart orderℕ (λ x. x) (numbers_from n 0) (numbers-rising n 0)))
    where
      go : (l : List ℕ) → ((x : ℕ) → x ∈ l → x < n) → Apart (λ x. x) l → Apart key l
      go [] below a = tt
      go (x ∷ l) below a = (λ y m e. a.0 y m (tell y x (below y (there m)) (below x (here refl)) e), go l (λ y m. below y (there m)) a.1)

  -- THE ORDER OF NUMBERS: n numbers below n whose keys rise strictly are the numbers below n, sorted by their keys
  pub rising-numbers : (l : List ℕ) → length l ≡ n → ((x : ℕ) → x ∈ l → x < n) → Rising O key l → l ≡ sort O key (numbers_from n 0)
  rising-numbers l size below r =
      rising-unique O key l (sort O key (numbers_from n 0)) r sorted-numbers
      (λ x m. mem-sort O key (number x m))
      (λ x m. apart-full l (numbers_from n 0) plain number (omega (arith, numbers-length n 0)) x (sort-mem O key (numbers_from n 0) m))
    where
      number : l ⊆ numbers_from n 0
      number x m = mem-numbers n 0 x (omega arith) (omega (arith, below x m))

      plain : Apart (λ x. x) l
      plain = pairwise-imp (λ x y t e. t (ap key e)) l (rising-apart O key l r)

-- each of n numbers from k on stands among them once
pub numbers-once : (n k x : ℕ) → k ≤ x → x < k + n → count (eqb x) (numbers_from n k) ≡ 1
unfolding numbers_from
numbers-once zero k x h l = absurd (omega arith)
numbers-once (suc n) k x h l =
    ⊎_elim
    (λ (q : k ≡ x). rw (eq-eqb x k (sym q)) (ap suc (count_none (eqb x) (numbers_from n (suc k)) (λ y m. ne_eqb x y (λ e. later q y m e)))))
    (λ (q : k < x). rw (ne_eqb x k (λ e. omega arith)) (numbers-once n (suc k) x q (omega arith)))
    (eq-or-lt_of_le h)
  where
    later : k ≡ x → (y : ℕ) → y ∈ numbers_from n (suc k) → x ≡ y → ⊥
    later q y m e = let w = numbers-mem n (suc k) y m in omega arith

-- numbers by a key and then by themselves: of two in their order the second test always passes, and the key decides
pub tie-last : (s t : Bool) → tie_break s t true ≡ s
tie-last true true = refl
tie-last true false = refl
tie-last false t = refl
