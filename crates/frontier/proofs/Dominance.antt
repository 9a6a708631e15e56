-- Cost vectors: the componentwise order and dominance.
use Rattle.std.specs.Prelude.{true, false, not, List, [], ◌∷◌, ◌⊎◌, ◌≡◌, refl}
use Rattle.std.proofs.Common.{inl, inr, ap₂}
use Rattle.std.proofs.lemmas.Bool.{not-true}
use Rattle.order.specs.Test.{Decided, clash, left}
use Rattle.order.proofs.Test.{both, decide, fails, refute, right}
use Rattle.order.specs.Order.{Less, TotalOrder, dictionary, dictionary_le}
use Rattle.order.proofs.Order.{dictionary-less, dictionary-same, equal-refl, equal→≡, le_refl, ≡→equal}
use Rattle.frontier.specs.Dominance.{dominates, le_all, same}

module _ {C : Type 0} (O : TotalOrder C) where
  open O use {le, le_trans, le_antisym}

  -- the componentwise order is a partial order
  pub le_all-cons : (x y : C) (v w : List C) → le x y ≡ true → le_all O v w ≡ true → le_all O (x ∷ v) (y ∷ w) ≡ true
  le_all-cons x y v w h k = both h k

  pub le_all-head : (x y : C) (v w : List C) → le_all O (x ∷ v) (y ∷ w) ≡ true → le x y ≡ true
  le_all-head x y v w h = left (le x y) (le_all O v w) h

  pub le_all-tail : (x y : C) (v w : List C) → le_all O (x ∷ v) (y ∷ w) ≡ true → le_all O v w ≡ true
  le_all-tail x y v w h = right (le x y) (le_all O v w) h

  pub le_all-refl : (v : List C) → le_all O v v ≡ true
  le_all-refl [] = refl
  le_all-refl (x ∷ v) = le_all-cons x x v v (le_refl O x) (le_all-refl v)

  pub le_all-trans : (u v w : List C) → le_all O u v ≡ true → le_all O v w ≡ true → le_all O u w ≡ true
  le_all-trans [] [] w h k = k
  le_all-trans [] (y ∷ v) w h k = clash h refl
  le_all-trans (x ∷ u) [] w h k = clash h refl
  le_all-trans (x ∷ u) (y ∷ v) [] h k = clash k refl
  le_all-trans (x ∷ u) (y ∷ v) (z ∷ w) h k =
      le_all-cons x z u w (le_trans x y z (le_all-head x y u v h) (le_all-head y z v w k)) (le_all-trans u v w (le_all-tail x y u v h) (le_all-tail y z v w k))

  pub le_all-antisym : (v w : List C) → le_all O v w ≡ true → le_all O w v ≡ true → v ≡ w
  le_all-antisym [] [] h k = refl
  le_all-antisym [] (y ∷ w) h k = clash h refl
  le_all-antisym (x ∷ v) [] h k = clash h refl
  le_all-antisym (x ∷ v) (y ∷ w) h k =
      ap₂ ◌∷◌ (le_antisym x y (le_all-head x y v w h) (le_all-head y x w v k)) (le_all-antisym v w (le_all-tail x y v w h) (le_all-tail y x w v k))

  -- what is componentwise below stands before in dictionary order
  pub le_all→dictionary_le : (v w : List C) → le_all O v w ≡ true → dictionary_le O v w ≡ true
  le_all→dictionary_le [] w h = refl
  le_all→dictionary_le (x ∷ v) [] h = h
  le_all→dictionary_le (x ∷ v) (y ∷ w) h = go (decide (le y x)) (le_all→dictionary_le v w (le_all-tail x y v w h))
    where
      go : Decided (le y x) → dictionary_le O v w ≡ true → dictionary_le O (x ∷ v) (y ∷ w) ≡ true
      go (inl p) k = dictionary-same O x y v w (le_antisym x y (le_all-head x y v w h) p) k
      go (inr p) k = dictionary-less O x y v w p

  pub dominates→le : (v w : List C) → dominates O v w ≡ true → le_all O v w ≡ true
  dominates→le v w h = left (le_all O v w) (not (same O v w)) h

  differ : (v w : List C) → dominates O v w ≡ true → same O v w ≡ false
  differ v w h = not-true (same O v w) (right (le_all O v w) (not (same O v w)) h)

  pub dominates→less : (v w : List C) → dominates O v w ≡ true → Less (dictionary O) v w
  dominates→less v w h = refute (dictionary_le O w v) (same O v w) (λ k. both (le_all→dictionary_le v w (dominates→le v w h)) k) (differ v w h)

  -- below w: the same, or dominating
  pub le-cases : (v w : List C) → le_all O v w ≡ true → (v ≡ w) ⊎ (dominates O v w ≡ true)
  le-cases v w h = go (decide (same O v w))
    where
      go : Decided (same O v w) → (v ≡ w) ⊎ (dominates O v w ≡ true)
      go (inl e) = inl (equal→≡ (dictionary O) v w e)
      go (inr n) = inr (rw (h, n))

  -- v ≤ u and u dominates w: v dominates w
  pub le-dominates-trans : (v u w : List C) → le_all O v u ≡ true → dominates O u w ≡ true → dominates O v w ≡ true
  le-dominates-trans v u w h k = rw (le_all-trans v u w h (dominates→le u w k), refute (same O v w) (same O u w) equals (differ u w k))
    where
      equals : same O v w ≡ true → same O u w ≡ true
      equals e = ≡→equal (dictionary O) u w (le_all-antisym u w (dominates→le u w k) (rw (equal→≡ (dictionary O) v w e) at h))

  pub dominates-irrefl : (v : List C) → dominates O v v ≡ false
  dominates-irrefl v = fails (dominates O v v) (λ h. clash (equal-refl (dictionary O) v) (differ v v h))
