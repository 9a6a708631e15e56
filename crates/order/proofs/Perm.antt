-- Permutations, relations that hold from each member of a list to every later one, and sums.
use Rattle.std.specs.Prelude.{Bool, not, List, [], ◌∷◌, map, ◌++◌, ◌⊎◌, ◌≡◌, refl, ℕ, zero, suc, ◌+◌, ◌<◌, get_or, length}
use mathlib.Core.List.Memᴰ
use mathlib.Core.List.Memᴰ.{head as here}
use mathlib.Core.List.Memᴰ.{tail as there}
use mathlib.Core.List.{Sublistᴰ}
use Rattle.std.proofs.Common.{inl, inr, ⊎_elim, sym, ap, ◌∙◌, subst, arith}
use Rattle.std.proofs.Math.Nat.{add_left_comm}
use Rattle.order.specs.Test.{by-test}
use Rattle.order.specs.Lists.{◌∈◌, ◌⊆◌, count, filter}
use Rattle.order.proofs.Lists.{count-swap, filter-mem, get_or-mem, map-mem, mem-skip, sublist-⊆}
use Rattle.order.specs.Perm.{Pairwise, Perm, perm-cons, perm-nil, perm-swap, perm-trans, sum}

-- ---- permutations

module _ {A : Type 0} where
  pub perm-refl : (xs : List A) → Perm xs xs
  perm-refl [] = perm-nil
  perm-refl (x ∷ xs) = perm-cons (perm-refl xs)

  pub perm-sym : {xs ys : List A} → Perm xs ys → Perm ys xs
  perm-sym perm-nil = perm-nil
  perm-sym (perm-cons p) = perm-cons (perm-sym p)
  perm-sym perm-swap = perm-swap
  perm-sym (perm-trans p q) = perm-trans (perm-sym q) (perm-sym p)

  pub perm-length : {xs ys : List A} → Perm xs ys → length xs ≡ length ys
  perm-length perm-nil = refl
  perm-length (perm-cons p) = ap suc (perm-length p)
  perm-length perm-swap = refl
  perm-length (perm-trans p q) = perm-length p ∙ perm-length q

  pub perm-map : {B : Type 0} (f : A → B) {xs ys : List A} → Perm xs ys → Perm (map f xs) (map f ys)
  perm-map f perm-nil = perm-nil
  perm-map f (perm-cons p) = perm-cons (perm-map f p)
  perm-map f perm-swap = perm-swap
  perm-map f (perm-trans p q) = perm-trans (perm-map f p) (perm-map f q)

  -- one member brought to the front
  pub perm_middle : (x : A) (xs ys : List A) → Perm (xs ++ x ∷ ys) (x ∷ xs ++ ys)
  perm_middle x [] ys = perm-refl (x ∷ ys)
  perm_middle x (z ∷ xs) ys = perm-trans (perm-cons (perm_middle x xs ys)) perm-swap

  -- a permutation has the same members
  pub perm-⊆ : {xs ys : List A} → Perm xs ys → xs ⊆ ys
  perm-⊆ perm-nil z m = m
  perm-⊆ (perm-cons p) z m = ⊎_elim (λ e. here e) (λ k. there (perm-⊆ p z k)) (Memᴰ.cases_cons m)
  perm-⊆ (perm-swap {x = x} {y = y} {xs = xs}) z m = ⊎_elim (λ e. there (here e)) (λ k. mem-skip k) (Memᴰ.cases_cons m)
  perm-⊆ (perm-trans p q) z m = perm-⊆ q z (perm-⊆ p z m)

  -- a member can be brought to the front
  pub mem-front : {x : A} {xs : List A} → x ∈ xs → (rest : List A) × Perm xs (x ∷ rest)
  mem-front (here {x = z} {xs = xs} e) = (xs, subst (λ (y : A). Perm (z ∷ xs) (y ∷ xs)) (sym e) (perm-refl (z ∷ xs)))
  mem-front (there {x = y} m) = let r = mem-front m in (y ∷ r.0, perm-trans (perm-cons r.1) perm-swap)

  -- the members that pass a test, and those that do not
  pub perm-split : (p : A → Bool) (xs : List A) → Perm xs (filter p xs ++ filter (λ x. not (p x)) xs)
  perm-split p [] = perm-nil
  perm-split p (x ∷ xs) =
      let ih = perm-split p xs in
      by-test (p x)
      (λ e. rw e (perm-cons ih))
      (λ e. rw e (perm-trans (perm-cons ih) (perm-sym (perm_middle x (filter p xs) (filter (λ x. not (p x)) xs)))))

  pub count-perm : (p : A → Bool) {xs ys : List A} → Perm xs ys → count p xs ≡ count p ys
  count-perm p perm-nil = refl
  count-perm p (perm-cons s) = rw (count-perm p s)
  count-perm p (perm-swap {x = x} {y = y} {xs = xs}) = count-swap p x y xs
  count-perm p (perm-trans s t) = count-perm p s ∙ count-perm p t

-- ---- relations

-- a weaker relation
pub pairwise-imp : {A : Type 0} {R S : A → A → Type 0} → ((x y : A) → R x y → S x y) → (xs : List A) → Pairwise R xs → Pairwise S xs
pairwise-imp f [] p = tt
pairwise-imp f (x ∷ xs) p = (λ y m. f x y (p.0 y m), pairwise-imp f xs p.1)

-- two at once
pub pairwise-zip : {A : Type 0} {R S Q : A → A → Type 0} → ((x y : A) → R x y → S x y → Q x y) → (xs : List A) → Pairwise R xs → Pairwise S xs → Pairwise Q xs
pairwise-zip f [] p q = tt
pairwise-zip f (x ∷ xs) p q = (λ y m. f x y (p.0 y m) (q.0 y m), pairwise-zip f xs p.1 q.1)

-- a symmetric one along a permutation
pub pairwise-perm : {A : Type 0} (R : A → A → Type 0) → ((x y : A) → R x y → R y x) → {xs ys : List A} → Perm xs ys → Pairwise R xs → Pairwise R ys
pairwise-perm R f perm-nil p = tt
pairwise-perm R f (perm-cons q) p = (λ y m. p.0 y (perm-⊆ (perm-sym q) y m), pairwise-perm R f q p.1)
pairwise-perm {A} R f (perm-swap {x = x} {y = y} {xs = xs}) p = (λ z m. go z (Memᴰ.cases_cons m), (λ z m. p.0 z (there m), p.1.1))
  where
    go : (z : A) → (z ≡ x) ⊎ (z ∈ xs) → R y z
    go z (inl e) = subst (λ (v : A). R y v) (sym e) (f x y (p.0 y (here refl)))
    go z (inr m) = p.1.0 z m
pairwise-perm R f (perm-trans q r) p = pairwise-perm R f r (pairwise-perm R f q p)

-- two lists joined: it holds if it does in each, and from the one to the other
pub pairwise_append : {A : Type 0} (R : A → A → Type 0) (xs ys : List A) → Pairwise R xs → Pairwise R ys
    → ((x y : A) → x ∈ xs → y ∈ ys → R x y) → Pairwise R (xs ++ ys)
pairwise_append R [] ys p q h = q
pairwise_append {A} R (x ∷ xs) ys p q h = (λ y m. go y (Memᴰ.append_cases xs m), pairwise_append R xs ys p.1 q (λ z y k m. h z y (there k) m))
  where
    go : (y : A) → (y ∈ xs) ⊎ (y ∈ ys) → R x y
    go y (inl k) = p.0 y k
    go y (inr m) = h x y (here refl) m

-- what holds of a list holds of its sublists
pub pairwise-sublist : {A : Type 0} (R : A → A → Type 0) {xs ys : List A} → Sublistᴰ xs ys → Pairwise R ys → Pairwise R xs
pairwise-sublist R Sublistᴰ.slnil p = tt
pairwise-sublist R (Sublistᴰ.cons s) p = pairwise-sublist R s p.1
pairwise-sublist R (Sublistᴰ.cons-cons q s) p = (λ y m. rw q (p.0 y (sublist-⊆ s y m)), pairwise-sublist R s p.1)

pub pairwise-filter : {A : Type 0} (f : A → Bool) (R : A → A → Type 0) (xs : List A) → Pairwise R xs → Pairwise R (filter f xs)
pairwise-filter f R [] p = tt
pairwise-filter f R (x ∷ xs) p =
    let ih = pairwise-filter f R xs p.1 in
    by-test (f x) (λ e. rw e (λ y m. p.0 y (filter-mem f xs m).0, ih)) (λ e. rw e ih)

-- of what a function makes of the members
pub pairwise_map : {A B : Type 0} (R : B → B → Type 0) (f : A → B) (xs : List A) → Pairwise (λ x y. R (f x) (f y)) xs → Pairwise R (map f xs)
pairwise_map R f [] p = tt
pairwise_map R f (x ∷ xs) p = (λ y m. let w = map-mem f xs y m in rw w.2 (p.0 w.0 w.1), pairwise_map R f xs p.1)

-- by places: it holds from an earlier place to a later one
pub pairwise-at : {A : Type 0} (R : A → A → Type 0) (l : List A) → Pairwise R l → (i j : ℕ) (d : A) → i < j → j < length l → R (get_or l i d) (get_or l j d)
pairwise-at R [] p i j d h k = absurd (omega arith)
pairwise-at R (x ∷ l) p i zero d h k = absurd (omega arith)
pairwise-at R (x ∷ l) p zero (suc j) d h k = p.0 (get_or l j d) (get_or-mem l j d (omega arith))
pairwise-at R (x ∷ l) p (suc i) (suc j) d h k = pairwise-at R l p.1 i j d (omega arith) (omega arith)

-- ---- sums

module _ {A : Type 0} (w : A → ℕ) where
  pub sum-perm : {xs ys : List A} → Perm xs ys → sum w xs ≡ sum w ys
  sum-perm perm-nil = refl
  sum-perm (perm-cons {x = x} p) = ap (λ (s : ℕ). w x + s) (sum-perm p)
  sum-perm (perm-swap {x = x} {y = y} {xs = xs}) = add_left_comm (w x) (w y) (sum w xs)
  sum-perm (perm-trans p q) = sum-perm p ∙ sum-perm q

  pub sum-append : (xs ys : List A) → sum w (xs ++ ys) ≡ sum w xs + sum w ys
  sum-append [] ys = omega arith
  sum-append (x ∷ xs) ys = omega (arith, sum-append xs ys)
