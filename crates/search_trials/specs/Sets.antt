-- The sets of at most two links of a list, in the order in which they are tried. The links may come in any order; each set is written rising.
use Rattle.std.specs.Prelude.{ℕ, ◌≤◌, ◌<◌, cond, ◌⊎◌, ◌≡◌, refl, leb, length}
use mathlib.Core.List.Sublistᴰ
use mathlib.Core.List.{List, [], ◌∷◌, map, ◌++◌, Sublistᴰ}
use mathlib.Core.List.Memᴰ
use mathlib.Core.List.Memᴰ.{head as here}
use mathlib.Core.List.Memᴰ.{tail as there}
use Rattle.std.proofs.Common.{inl, inr, sym, ap, ◌∙◌, arith, le-leb, leb-false}
use Rattle.std.proofs.Math.Logic.{⊎_elim}
use Rattle.std.proofs.lemmas.Bool.{lt-leb}
use Rattle.order.specs.Test.{by-test}
use Rattle.order.specs.Lists.{◌∈◌, ◌⊆◌}
use Rattle.order.proofs.Lists.{map-mem}
use Rattle.order.specs.Order.{orderℕ}
use Rattle.order.specs.Sorted.{Apart, Rising}
use Rattle.spanning.proofs.Rising.{trichotomy}

-- the lower one of two links
unfoldable pub lower : ℕ → ℕ → ℕ
lower x y = cond (leb x y) x y

-- the higher one
unfoldable pub higher : ℕ → ℕ → ℕ
higher x y = cond (leb x y) y x

-- the set of two links
abbrev pub pair : ℕ → ℕ → List ℕ
pair x y = lower x y ∷ higher x y ∷ []

-- the sets of one and of two links
unfoldable pub sets : List ℕ → List (List ℕ)
sets [] = []
sets (x ∷ l) = (x ∷ []) ∷ (map (pair x) l ++ sets l)

-- those of one link alone
unfoldable pub singles : List ℕ → List (List ℕ)
singles l = map (λ x. x ∷ []) l

-- and the empty one
abbrev pub trials : List ℕ → List (List ℕ)
trials l = [] ∷ sets l

-- ---- pairs

pair-below : (x y : ℕ) → x < y → pair x y ≡ x ∷ y ∷ []
unfolding lower higher
pair-below x y h = rw (le-leb x y (omega arith))

pair-above : (x y : ℕ) → y < x → pair x y ≡ y ∷ x ∷ []
unfolding lower higher
pair-above x y h = rw (lt-leb x y h)

-- the links of a set that is tried are links of l
pair-among : (x y : ℕ) (l : List ℕ) → y ∈ l → pair x y ⊆ x ∷ l
unfolding lower higher
pair-among x y l m e k =
    by-test (leb x y)
    (λ t. ⊎_elim (λ q. here q) (λ j. there (Memᴰ.cast (Memᴰ.eq_of_singleton j) m)) (Memᴰ.cases_cons (rw t at k)))
    (λ t. ⊎_elim (λ q. there (Memᴰ.cast q m)) (λ j. here (Memᴰ.eq_of_singleton j)) (Memᴰ.cases_cons (rw t at k)))

sets-among : (l X : List ℕ) → X ∈ sets l → X ⊆ l
unfolding sets
sets-among [] X m e k = elim m [ ]
sets-among (x ∷ l) X m e k =
    ⊎_elim
    (λ q. here (Memᴰ.eq_of_singleton (rw q at k)))
    (λ n. ⊎_elim
    (λ j. let y = map-mem (pair x) l X j in pair-among x y.0 l y.1 e (rw y.2 at k))
    (λ j. there (sets-among l X j e k))
    (Memᴰ.append_cases (map (pair x) l) n))
    (Memᴰ.cases_cons m)

pub trials-among : (l X : List ℕ) → X ∈ trials l → X ⊆ l
trials-among l X m e k = ⊎_elim (λ q. elim (rw q at k) [ ]) (λ n. sets-among l X n e k) (Memᴰ.cases_cons m)

-- ---- they are the sets of at most two

member-sublist : {x : ℕ} {l : List ℕ} → x ∈ l → Sublistᴰ (x ∷ []) l
member-sublist {l = y ∷ l} (here e) = Sublistᴰ.cons-cons e (Sublistᴰ.nil-sublist l)
member-sublist (there m) = Sublistᴰ.cons (member-sublist m)

-- two links of a rising list
rising-pair : (e : List ℕ) → Rising orderℕ (λ x. x) e → (a b : ℕ) → a < b → a ∈ e → b ∈ e → Sublistᴰ (a ∷ b ∷ []) e
rising-pair [] r a b h m n = elim m [ ]
rising-pair (c ∷ e) r a b h m n = go (rising-pair e r.1 a b h) (Memᴰ.cases_cons m) (Memᴰ.cases_cons n)
  where
    go : (a ∈ e → b ∈ e → Sublistᴰ (a ∷ b ∷ []) e) → (a ≡ c) ⊎ (a ∈ e) → (b ≡ c) ⊎ (b ∈ e) → Sublistᴰ (a ∷ b ∷ []) (c ∷ e)
    go later (inl p) (inl q) = absurd (omega arith)
    go later (inl p) (inr k) = Sublistᴰ.cons-cons p (member-sublist k)
    go later (inr k) (inl q) = let f = leb-false a c (r.0 a k) in absurd (omega arith)
    go later (inr j) (inr k) = Sublistᴰ.cons (later j k)

module _ (e : List ℕ) (rising : Rising orderℕ (λ x. x) e) where
  apart-pair : (x y : ℕ) → x ∈ e → y ∈ e → (y ≡ x → ⊥) → Sublistᴰ (pair x y) e
  apart-pair x y m n d = go (trichotomy x y)
    where
      go : (x < y) ⊎ ((x ≡ y) ⊎ (y < x)) → Sublistᴰ (pair x y) e
      go (inl h) = rw (pair-below x y h) (rising-pair e rising x y h m n)
      go (inr (inl q)) = absurd (d (sym q))
      go (inr (inr h)) = rw (pair-above x y h) (rising-pair e rising y x h n m)

  sets-sublist : (l X : List ℕ) → l ⊆ e → Apart (λ x. x) l → X ∈ sets l → Sublistᴰ X e
  unfolding sets
  sets-sublist [] X among apart m = elim m [ ]
  sets-sublist (x ∷ l) X among apart m = go (sets-sublist l X (λ y k. among y (there k)) apart.1) (Memᴰ.cases_cons m)
    where
      go : (X ∈ sets l → Sublistᴰ X e) → (X ≡ x ∷ []) ⊎ (X ∈ map (pair x) l ++ sets l) → Sublistᴰ X e
      go later (inl q) = rw q (member-sublist (among x (here refl)))
      go later (inr n) =
          ⊎_elim
          (λ k. let y = map-mem (pair x) l X k in rw y.2 (apart-pair x y.0 (among x (here refl)) (among y.0 (there y.1)) (apart.0 y.0 y.1)))
          later
          (Memᴰ.append_cases (map (pair x) l) n)

-- each set of one and of two links is tried
one-tried : (x : ℕ) (l : List ℕ) → x ∈ l → x ∷ [] ∈ sets l
unfolding sets
one-tried x [] x'' = elim x'' [ ]
one-tried x (y ∷ l) (here e) = here (ap (λ (z : ℕ). z ∷ []) e)
one-tried x (y ∷ l) (there m) = there (Memᴰ.append_right (map (pair y) l) (one-tried x l m))

two-tried : (a b : ℕ) (l : List ℕ) → a < b → a ∈ l → b ∈ l → a ∷ b ∷ [] ∈ sets l
unfolding sets
two-tried a b [] h m n = elim m [ ]
two-tried a b (x ∷ l) h m n = go (two-tried a b l h) (Memᴰ.cases_cons m) (Memᴰ.cases_cons n)
  where
    go : (a ∈ l → b ∈ l → a ∷ b ∷ [] ∈ sets l) → (a ≡ x) ⊎ (a ∈ l) → (b ≡ x) ⊎ (b ∈ l) → a ∷ b ∷ [] ∈ sets (x ∷ l)
    go later (inl p) (inl q) = absurd (omega arith)
    go later (inl p) (inr k) = there (Memᴰ.append_left (sets l) (Memᴰ.cast (sym (pair-below a b h) ∙ ap (λ (z : ℕ). pair z b) p) (Memᴰ.map (pair x) k)))
    go later (inr k) (inl q) = there (Memᴰ.append_left (sets l) (Memᴰ.cast (sym (pair-above b a h) ∙ ap (λ (z : ℕ). pair z a) q) (Memᴰ.map (pair x) k)))
    go later (inr j) (inr k) = there (Memᴰ.append_right (map (pair x) l) (later j k))

-- a set of at most two links of l, written rising, is tried
pub trials-complete : (l X : List ℕ) → Rising orderℕ (λ x. x) X → X ⊆ l → length X ≤ 2 → X ∈ trials l
trials-complete l [] r s h = here refl
trials-complete l (a ∷ []) r s h = there (one-tried a l (s a (here refl)))
trials-complete l (a ∷ b ∷ []) r s h =
    there (two-tried a b l (leb-false b a (r.0 b (here refl))) (s a (here refl)) (s b (there (here refl))))
trials-complete l (a ∷ b ∷ c ∷ X) r s h = absurd (omega arith)

-- and each that is tried is a set of links e, where those of l are
pub trials-sound : (e l : List ℕ) → Rising orderℕ (λ x. x) e → Apart (λ x. x) l → l ⊆ e → (X : List ℕ) → X ∈ trials l → Sublistᴰ X e
trials-sound e l rising apart among X m =
    ⊎_elim (λ q. rw q (Sublistᴰ.nil-sublist e)) (λ n. sets-sublist e rising l X among apart n) (Memᴰ.cases_cons m)
