-- Total orders that are decided by a test: of ℕ, of ℤ, turned round, of pairs, and of lists as in a dictionary.
use Rattle.std.specs.Prelude.{true, false, List, ◌∷◌, ◌≡◌, refl}
use Rattle.order.specs.Test.{by-test, clash, left}
use Rattle.order.proofs.Test.{both, fails, refute, right}
use Rattle.order.specs.Order.{Less, TotalOrder, dictionary, dictionary_le, equal, pair_le, tie-less, tie-of}

-- ---- laws

module _ {C : Type 0} (O : TotalOrder C) where
  open O use {le, le_trans, le_antisym, le_total}

  pub le_refl : (a : C) → le a a ≡ true
  le_refl a = by-test (le a a) (λ e. e) (λ e. le_total a a e)

  -- `equal` decides equality
  pub equal→≡ : (a b : C) → equal O a b ≡ true → a ≡ b
  equal→≡ a b h = le_antisym a b (left (le a b) (le b a) h) (right (le a b) (le b a) h)

  pub ≡→equal : (a b : C) → a ≡ b → equal O a b ≡ true
  ≡→equal a b e = rw e (both (le_refl b) (le_refl b))

  pub equal-refl : (a : C) → equal O a a ≡ true
  equal-refl a = ≡→equal a a refl

  -- the strict order
  pub less→le : (a b : C) → Less O a b → le a b ≡ true
  less→le a b h = le_total b a h

  pub less-le-trans : (a b c : C) → Less O a b → le b c ≡ true → Less O a c
  less-le-trans a b c h k = refute (le c a) (le b a) (λ m. le_trans b c a k m) h

  pub less-irrefl : (a : C) → Less O a a → ⊥
  less-irrefl a h = clash (le_refl a) h

  pub le-apart : (a b : C) → le a b ≡ true → (b ≡ a → ⊥) → Less O a b
  le-apart a b h n = fails (le b a) (λ k. n (le_antisym b a k h))

  -- the dictionary order, by its first entries
  pub dictionary-less : (x y : C) (v w : List C) → Less O x y → dictionary_le O (x ∷ v) (y ∷ w) ≡ true
  dictionary-less x y v w h = tie-less O x y (dictionary_le O v w) h

  pub dictionary-same : (x y : C) (v w : List C) → x ≡ y → dictionary_le O v w ≡ true → dictionary_le O (x ∷ v) (y ∷ w) ≡ true
  dictionary-same x y v w e h = tie-of O x y (dictionary_le O v w) (rw e (le_refl y)) h

  -- the laws of the dictionary order
  pub dictionary-trans : (u v w : List C) → dictionary_le O u v ≡ true → dictionary_le O v w ≡ true → dictionary_le O u w ≡ true
  dictionary-trans = (dictionary O).le_trans

  pub dictionary-total : (v w : List C) → dictionary_le O v w ≡ false → dictionary_le O w v ≡ true
  dictionary-total = (dictionary O).le_total

  pub dictionary-antisym : (v w : List C) → dictionary_le O v w ≡ true → dictionary_le O w v ≡ true → v ≡ w
  dictionary-antisym = (dictionary O).le_antisym

  -- a list stands strictly before another by the first entries, or where these are the same by the rest
  pub less-first : (x y : C) (v w : List C) → Less O x y → Less (dictionary O) (x ∷ v) (y ∷ w)
  less-first x y v w h = rw h

  pub less-rest : (x : C) (v w : List C) → Less (dictionary O) v w → Less (dictionary O) (x ∷ v) (x ∷ w)
  less-rest x v w h = rw (le_refl x) h

-- ---- pairs

module _ {A B : Type 0} (O : TotalOrder A) (Q : TotalOrder B) where
  pub pair-less : (p q : A × B) → Less O p.0 q.0 → pair_le O Q p q ≡ true
  pair-less p q e = tie-less O p.0 q.0 (Q.le p.1 q.1) e

  pub pair_of : (p q : A × B) → O.le p.0 q.0 ≡ true → Q.le p.1 q.1 ≡ true → pair_le O Q p q ≡ true
  pair_of p q e f = tie-of O p.0 q.0 (Q.le p.1 q.1) e f
