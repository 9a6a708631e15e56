-- Lists and Boolean tests: members, filters, counts, the first member that passes.
use Rattle.std.specs.Prelude.{Bool, true, false, ◌&&◌, not, ◌||◌, ◌≡◌, refl, ℕ, suc, ◌+◌, ◌≤◌, ◌<◌, zero, length, get_or}
use mathlib.Core.List.Memᴰ
use mathlib.Core.List.Memᴰ.{head as here}
use mathlib.Core.List.Memᴰ.{tail as there}
use mathlib.Core.List.{List, [], ◌∷◌, map, ◌++◌}
use mathlib.Core.List.{Sublistᴰ}
use Rattle.std.proofs.Common.{⊎_elim, sym, ap, ap₂, ◌∙◌, subst, arith}
use Rattle.std.proofs.Math.Option.{Option, none, some, some-injective, none-ne-some}
use Rattle.std.proofs.lemmas.Bool.{not-true}
use Rattle.order.specs.Test.{by-test, clash, left}
use Rattle.order.proofs.Test.{both, fails, refute, right}
use Rattle.order.specs.Lists.{all, any, count, distinct, filter, first, map_some, prepend, ◌∈◌, ◌⊆◌}

-- ---- members

pub length-nil : {A : Type 0} (l : List A) → length l ≤ 0 → l ≡ []
length-nil [] h = refl
length-nil (x ∷ l) h = absurd (omega arith)

-- a member of x ∷ ys stands in x ∷ y ∷ ys too
pub mem-skip : {A : Type 0} {z x y : A} {ys : List A} → z ∈ x ∷ ys → z ∈ x ∷ y ∷ ys
mem-skip m = ⊎_elim (λ q. here q) (λ n. there (there n)) (Memᴰ.cases_cons m)

-- a member of a map is the image of a member, and a map keeps ⊆
pub map-mem : {A B : Type 0} (f : A → B) (xs : List A) (z : B) → z ∈ map f xs → (x : A) × (x ∈ xs) × (z ≡ f x)
map-mem f [] z m = elim m [ ]
map-mem {A} f (x ∷ xs) z m =
    ⊎_elim {C = (y : A) × (y ∈ x ∷ xs) × (z ≡ f y)}
    (λ p. (x, here refl, p))
    (λ k. let r = map-mem f xs z k in (r.0, there r.1, r.2))
    (Memᴰ.cases_cons m)

pub map-⊆ : {A B : Type 0} (f : A → B) (xs ys : List A) → xs ⊆ ys → map f xs ⊆ map f ys
map-⊆ f xs ys h z m = let r = map-mem f xs z m in Memᴰ.cast r.2 (Memᴰ.map f (h r.0 r.1))

pub sublist-⊆ : {A : Type 0} {xs ys : List A} → Sublistᴰ xs ys → xs ⊆ ys
sublist-⊆ Sublistᴰ.slnil x m = m
sublist-⊆ (Sublistᴰ.cons s) x m = there (sublist-⊆ s x m)
sublist-⊆ (Sublistᴰ.cons-cons q s) x m = ⊎_elim (λ e. here (e ∙ q)) (λ n. there (sublist-⊆ s x n)) (Memᴰ.cases_cons m)

pub sublist-few : {A : Type 0} {xs ys : List A} → Sublistᴰ xs ys → length xs ≤ length ys
sublist-few Sublistᴰ.slnil = omega arith
sublist-few (Sublistᴰ.cons s) = omega (arith, sublist-few s)
sublist-few (Sublistᴰ.cons-cons q s) = omega (arith, sublist-few s)

-- the members of map_some
module _ {A B : Type 0} (f : A → Option B) where
  pub map_some-mem : (xs : List A) {y : B} → y ∈ map_some f xs → (x : A) × (x ∈ xs) × (f x ≡ some y)
  map_some-mem [] m = absurd (Memᴰ.not-nil m)
  map_some-mem (x ∷ xs) {y} m = go (λ n. let r = map_some-mem xs n in (r.0, there r.1, r.2)) (f x) refl m
    where
      Found : Type 0
      Found = (z : A) × (z ∈ x ∷ xs) × (f z ≡ some y)

      go : (y ∈ map_some f xs → Found) → (o : Option B) → f x ≡ o → y ∈ prepend o (map_some f xs) → Found
      go rest none e n = rest n
      go rest (some z) e n = ⊎_elim (λ (q : y ≡ z). (x, here refl, e ∙ ap some (sym q))) rest (Memᴰ.cases_cons n)

  pub mem-map_some : {x : A} {y : B} {xs : List A} → x ∈ xs → f x ≡ some y → y ∈ map_some f xs
  mem-map_some (here q) e = rw (ap f (sym q) ∙ e) (here refl)
  mem-map_some {y = y} (there {x = z} {xs = xs} m) e = go (f z) (mem-map_some m e)
    where
      go : (o : Option B) → y ∈ map_some f xs → y ∈ prepend o (map_some f xs)
      go none n = n
      go (some z) n = there n

  pub map_some-append : (xs ys : List A) → map_some f (xs ++ ys) ≡ map_some f xs ++ map_some f ys
  map_some-append [] ys = refl
  map_some-append (x ∷ xs) ys = go (f x) (map_some-append xs ys)
    where
      go : (o : Option B) → map_some f (xs ++ ys) ≡ map_some f xs ++ map_some f ys → prepend o (map_some f (xs ++ ys)) ≡ prepend o (map_some f xs) ++ map_some f ys
      go none e = e
      go (some z) e = ap (λ (l : List B). z ∷ l) e

-- by place: a member of a list, and of a map
pub get_or_map : {A B : Type 0} (f : A → B) (l : List A) (i : ℕ) (d : A) (d' : B) → i < length l → get_or (map f l) i d' ≡ f (get_or l i d)
get_or_map f [] i d d' h = absurd (omega arith)
get_or_map f (x ∷ l) zero d d' h = refl
get_or_map f (x ∷ l) (suc i) d d' h = get_or_map f l i d d' (omega arith)

-- what stands for a place out of range does not matter at one within
pub get_or_default : {A : Type 0} (l : List A) (i : ℕ) (d e : A) → i < length l → get_or l i d ≡ get_or l i e
get_or_default [] i d e h = absurd (omega arith)
get_or_default (x ∷ l) zero d e h = refl
get_or_default (x ∷ l) (suc i) d e h = get_or_default l i d e (omega arith)

pub get_or-mem : {A : Type 0} (l : List A) (i : ℕ) (d : A) → i < length l → get_or l i d ∈ l
get_or-mem [] i d h = absurd (omega arith)
get_or-mem (x ∷ l) zero d h = here refl
get_or-mem (x ∷ l) (suc i) d h = there (get_or-mem l i d (omega arith))

pub mem-get_or : {A : Type 0} (d : A) {x : A} {l : List A} → x ∈ l → (i : ℕ) × (i < length l) × (x ≡ get_or l i d)
mem-get_or d (here e) = (0, omega arith, e)
mem-get_or d (there m) = let w = mem-get_or d m in let h = w.1 in (suc w.0, omega arith, w.2)

-- ---- filter

module _ {A : Type 0} (p : A → Bool) where
  pub mem-filter : {x : A} {xs : List A} → x ∈ xs → p x ≡ true → x ∈ filter p xs
  mem-filter (here {x = y} q) e = rw (ap p (sym q) ∙ e) (here q)
  mem-filter (there {x = y} m) e = by-test (p y) (λ f. rw f (there (mem-filter m e))) (λ f. rw f (mem-filter m e))

  pub filter-mem : (xs : List A) {x : A} → x ∈ filter p xs → (x ∈ xs) × (p x ≡ true)
  filter-mem [] m = absurd (Memᴰ.not-nil m)
  filter-mem (y ∷ ys) {x} m =
      by-test (p y)
      (λ f. ⊎_elim {C = (x ∈ y ∷ ys) × (p x ≡ true)}
      (λ (q : x ≡ y). (here q, ap p q ∙ f))
      (λ n. let r = filter-mem ys n in (there r.0, r.1))
      (Memᴰ.cases_cons (rw f at m)))
      (λ f. let r = filter-mem ys (rw f at m) in (there r.0, r.1))

  pub filter-among : (xs : List A) → Sublistᴰ (filter p xs) xs
  filter-among [] = Sublistᴰ.slnil
  filter-among (x ∷ xs) = let ih = filter-among xs in by-test (p x) (λ e. rw e (Sublistᴰ.cons-cons refl ih)) (λ e. rw e (Sublistᴰ.cons ih))

  pub filter-sublist : {xs ys : List A} → Sublistᴰ xs ys → Sublistᴰ (filter p xs) (filter p ys)
  filter-sublist Sublistᴰ.slnil = Sublistᴰ.slnil
  filter-sublist (Sublistᴰ.cons {a = a} s) =
      let ih = filter-sublist s in
      by-test (p a) (λ e. rw e (Sublistᴰ.cons ih)) (λ e. rw e ih)
  filter-sublist (Sublistᴰ.cons-cons {a = a} {b = b} q s) =
      let ih = filter-sublist s in
      by-test (p a)
      (λ e. rw (e, ap p (sym q) ∙ e) (Sublistᴰ.cons-cons q ih))
      (λ e. rw (e, ap p (sym q) ∙ e) ih)

  pub filter-append : (xs ys : List A) → filter p (xs ++ ys) ≡ filter p xs ++ filter p ys
  filter-append [] ys = refl
  filter-append (x ∷ xs) ys = by-test (p x) (λ e. rw (e, filter-append xs ys)) (λ e. rw (e, filter-append xs ys))

  -- where all members pass, all stay
  pub filter-all : (xs : List A) → ((x : A) → x ∈ xs → p x ≡ true) → filter p xs ≡ xs
  filter-all [] h = refl
  filter-all (x ∷ xs) h = rw (h x (here refl)) (ap (◌∷◌ x) (filter-all xs (λ y m. h y (there m))))

-- two tests that agree on the members
pub filter-ext : {A : Type 0} (p q : A → Bool) (xs : List A) → ((x : A) → x ∈ xs → p x ≡ q x) → filter p xs ≡ filter q xs
filter-ext p q [] h = refl
filter-ext p q (x ∷ xs) h =
    let rest = filter-ext p q xs (λ y m. h y (there m)) in
    by-test (q x) (λ e. rw (h x (here refl), e, rest)) (λ e. rw (h x (here refl), e, rest))

-- ---- all, any

module _ {A : Type 0} where
  pub all-ext : (p q : A → Bool) (xs : List A) → ((x : A) → x ∈ xs → p x ≡ q x) → all p xs ≡ all q xs
  all-ext p q [] h = refl
  all-ext p q (x ∷ xs) h = ap₂ (λ s t. s && t) (h x (here refl)) (all-ext p q xs (λ y m. h y (there m)))

  pub all-mem : (p : A → Bool) (xs : List A) → all p xs ≡ true → (x : A) → x ∈ xs → p x ≡ true
  all-mem p [] e x m = elim m [ ]
  all-mem p (y ∷ ys) e x m =
      ⊎_elim (λ (q : x ≡ y). rw q (left (p y) (all p ys) e)) (λ n. all-mem p ys (right (p y) (all p ys) e) x n) (Memᴰ.cases_cons m)

  pub mem-all : (p : A → Bool) (xs : List A) → ((x : A) → x ∈ xs → p x ≡ true) → all p xs ≡ true
  mem-all p [] h = refl
  mem-all p (x ∷ xs) h = both (h x (here refl)) (mem-all p xs (λ y m. h y (there m)))

module _ {A : Type 0} (p : A → Bool) where
  pub mem-any : {a : A} {l : List A} → a ∈ l → p a ≡ true → any p l ≡ true
  mem-any (here {x = x} q) e = rw (ap p (sym q) ∙ e)
  mem-any (there {x = x} m) e = by-test (p x) (λ f. rw f) (λ f. rw f (mem-any m e))

  pub any-mem : (l : List A) → any p l ≡ true → (a : A) × (a ∈ l) × (p a ≡ true)
  any-mem [] h = clash h refl
  any-mem (x ∷ l) h =
      by-test {P = (a : A) × (a ∈ x ∷ l) × (p a ≡ true)} (p x)
      (λ k. (x, here refl, k))
      (λ k. let w = any-mem l (rw k at h) in (w.0, there w.1, w.2))

  pub any_none : (l : List A) → any p l ≡ false → {a : A} → a ∈ l → p a ≡ false
  any_none l h {a} m = refute (p a) (any p l) (λ k. mem-any m k) h

  pub none_any : (l : List A) → ((a : A) → a ∈ l → p a ≡ false) → any p l ≡ false
  none_any l h = fails (any p l) (λ k. let w = any-mem l k in clash w.2 (h w.0 w.1))

  pub any_snoc : (l : List A) (x : A) → any p (l ++ (x ∷ [])) ≡ any p l || p x
  any_snoc [] x = by-test (p x) (λ e. rw e) (λ e. rw e)
  any_snoc (y ∷ l) x = by-test (p y) (λ e. rw e) (λ e. rw e (any_snoc l x))

-- ---- the first that passes

module _ {A : Type 0} (p : A → Bool) where
  -- it is a member and passes
  pub first-mem : (l : List A) (a : A) → first p l ≡ some a → (a ∈ l) × (p a ≡ true)
  first-mem [] a e = absurd (none-ne-some a e)
  first-mem (x ∷ l) a e =
      by-test {P = (a ∈ x ∷ l) × (p a ≡ true)} (p x)
      (λ k. let q : a ≡ x = sym (some-injective x a (rw k at e)) in (here q, ap p q ∙ k))
      (λ k. let w = first-mem l a (rw k at e) in (there w.0, w.1))

  -- where some member passes there is a first one
  pub first-exists : {a : A} {l : List A} → a ∈ l → p a ≡ true → (b : A) × (first p l ≡ some b)
  first-exists (here {x = x} q) h = (x, rw (ap p (sym q) ∙ h))
  first-exists {a} (there {x = x} {xs = l} m) h =
      let ih = first-exists m h in
      by-test {P = (b : A) × (first p (x ∷ l) ≡ some b)} (p x) (λ k. (x, rw k)) (λ k. (ih.0, rw k ih.1))

-- `distinct` has exactly the members that are the first of their group
module _ {A : Type 0} (e : A → A → Bool) (e-refl : (x : A) → e x x ≡ true) (e-sym : (x y : A) → e x y ≡ true → e y x ≡ true) where
  pub distinct-first : (l : List A) {a : A} → a ∈ distinct e l → first (λ y. e y a) l ≡ some a
  distinct-first [] m = absurd (Memᴰ.not-nil m)
  distinct-first (x ∷ l) {a} m =
      ⊎_elim
      (λ (q : a ≡ x). rw (subst (λ (z : A). e x z ≡ true) (sym q) (e-refl x)) (ap some (sym q)))
      (λ n. let w = filter-mem (λ y. not (e y x)) (distinct e l) n in
      rw (refute (e x a) (e a x) (e-sym x a) (not-true (e a x) w.1)) (distinct-first l w.0))
      (Memᴰ.cases_cons m)

  pub first-distinct : (l : List A) {a : A} → first (λ y. e y a) l ≡ some a → a ∈ distinct e l
  first-distinct [] {a} h = absurd (none-ne-some a h)
  first-distinct (x ∷ l) {a} h =
      by-test (e x a)
      (λ k. here (sym (some-injective x a (rw k at h))))
      (λ k. let apart : e a x ≡ false = refute (e a x) (e x a) (e-sym a x) k in
      there (mem-filter (λ y. not (e y x)) (first-distinct l (rw k at h)) (rw apart)))

-- ---- counts

module _ {A : Type 0} where
  pub length-filter : (p : A → Bool) (xs : List A) → length (filter p xs) ≡ count p xs
  length-filter p [] = refl
  length-filter p (x ∷ xs) = by-test (p x) (λ e. rw e (ap suc (length-filter p xs))) (λ e. rw e (length-filter p xs))

  pub count_none : (p : A → Bool) (xs : List A) → ((x : A) → x ∈ xs → p x ≡ false) → count p xs ≡ zero
  count_none p [] h = refl
  count_none p (x ∷ xs) h = rw (h x (here refl)) (count_none p xs (λ y m. h y (there m)))

  pub count-all : (xs : List A) → count (λ x. true) xs ≡ length xs
  count-all [] = refl
  count-all (x ∷ xs) = ap suc (count-all xs)

  pub count-le-length : (p : A → Bool) (xs : List A) → count p xs ≤ length xs
  count-le-length p [] = omega arith
  count-le-length p (x ∷ xs) =
      let ih = count-le-length p xs in
      by-test (p x) (λ e. rw e (omega arith)) (λ e. rw e (omega arith))

  pub count-swap : (p : A → Bool) (x y : A) (xs : List A) → count p (x ∷ y ∷ xs) ≡ count p (y ∷ x ∷ xs)
  count-swap p x y xs =
      by-test (p x)
      (λ e. by-test (p y) (λ f. rw (e, f)) (λ f. rw (e, f)))
      (λ e. by-test (p y) (λ f. rw (e, f)) (λ f. rw (e, f)))

  -- no more different members than members
  pub distinct-few : (e : A → A → Bool) (xs : List A) → length (distinct e xs) ≤ length xs
  distinct-few e [] = omega arith
  distinct-few e (x ∷ xs) =
      let ih = distinct-few e xs in
      omega (arith, length-filter (λ y. not (e y x)) (distinct e xs), count-le-length (λ y. not (e y x)) (distinct e xs))

  -- a filter that keeps all that p counts
  pub count-filter : (p q : A → Bool) → ((x : A) → p x ≡ true → q x ≡ true) → (xs : List A) → count p (filter q xs) ≡ count p xs
  count-filter p q h [] = refl
  count-filter p q h (x ∷ xs) =
      let ih = count-filter p q h xs in
      by-test (p x)
      (λ e. rw (e, h x e, e) (ap suc ih))
      (λ e. by-test (q x) (λ f. rw (e, f, e) ih) (λ f. rw (e, f) ih))

  pub count-or : (p q : A → Bool) (xs : List A) → count (λ x. p x || q x) xs ≤ count p xs + count q xs
  count-or p q [] = omega arith
  count-or p q (x ∷ xs) =
      let ih = count-or p q xs in
      by-test (p x)
      (λ e. by-test (q x) (λ f. rw (e, f) (omega arith)) (λ f. rw (e, f) (omega arith)))
      (λ e. by-test (q x) (λ f. rw (e, f) (omega arith)) (λ f. rw (e, f) (omega arith)))

  pub count-append : (p : A → Bool) (xs ys : List A) → count p (xs ++ ys) ≡ count p xs + count p ys
  count-append p [] ys = omega arith
  count-append p (x ∷ xs) ys =
      let ih = count-append p xs ys in
      by-test (p x) (λ e. rw e (omega arith)) (λ e. rw e (omega arith))

pub count_map : {A B : Type 0} (p : B → Bool) (f : A → B) (xs : List A) → count p (map f xs) ≡ count (λ x. p (f x)) xs
count_map p f [] = refl
count_map p f (x ∷ xs) = rw (count_map p f xs)

pub map_some-few : {A B : Type 0} (f : A → Option B) (xs : List A) → length (map_some f xs) ≤ length xs
map_some-few f [] = omega arith
map_some-few {B = B} f (x ∷ xs) = go (f x) (map_some-few f xs)
  where
    go : (o : Option B) → length (map_some f xs) ≤ length xs → length (prepend o (map_some f xs)) ≤ suc (length xs)
    go none h = omega arith
    go (some y) h = omega arith
