-- All strictly rising lists of t numbers below m, in dictionary order.
use mathlib.Core.List.Memᴰ
use mathlib.Core.List.Memᴰ.{head as here}
use Rattle.std.specs.Prelude.{List, [], ◌∷◌, map, ◌++◌, ◌↔◌, ◌⊎◌, ◌≡◌, refl, ℕ, suc, ◌+◌, ◌<◌, zero, length}
use Rattle.std.proofs.Common.{inl, inr, sym, ap, subst, zero-add, eq-or-lt_of_le, arith}
use Rattle.std.proofs.Math.Nat.{suc_inj}
use Rattle.order.specs.Lists.{◌∈◌}
use Rattle.order.proofs.Lists.{map-mem}
use Rattle.order.specs.Perm.{Pairwise}
use Rattle.order.proofs.Perm.{pairwise_append, pairwise-imp, pairwise_map}
use Rattle.spanning.specs.Rising.{Before, RisingIn}
use Rattle.spanning.proofs.Rising.{before-less, before_same, rising-weaken}
use Rattle.spanning.specs.Choose.{choose, choose_from}

-- every list in it is one of these
chosen : (r t k m : ℕ) → k + r ≡ m → (xs : List ℕ) → xs ∈ choose_from r t k → RisingIn k m xs × (length xs ≡ t)
unfolding choose_from
chosen zero zero k m e xs h = let p = Memᴰ.eq_of_singleton h in subst (λ (l : List ℕ). RisingIn k m l × (length l ≡ zero)) (sym p) (tt, refl)
chosen zero (suc t) k m e xs h = elim h [ ]
chosen (suc r) zero k m e xs h = let p = Memᴰ.eq_of_singleton h in subst (λ (l : List ℕ). RisingIn k m l × (length l ≡ zero)) (sym p) (tt, refl)
chosen (suc r) (suc t) k m e xs h =
    go (chosen r t (suc k) m (omega arith)) (chosen r (suc t) (suc k) m (omega arith) xs)
    (Memᴰ.append_cases (map (λ l. k ∷ l) (choose_from r t (suc k))) h)
  where
    go : ((ys : List ℕ) → ys ∈ choose_from r t (suc k) → RisingIn (suc k) m ys × (length ys ≡ t))
        → (xs ∈ choose_from r (suc t) (suc k) → RisingIn (suc k) m xs × (length xs ≡ suc t))
        → (xs ∈ map (λ l. k ∷ l) (choose_from r t (suc k))) ⊎ (xs ∈ choose_from r (suc t) (suc k))
        → RisingIn k m xs × (length xs ≡ suc t)
    go first rest (inl h) =
        let y = map-mem (λ l. k ∷ l) (choose_from r t (suc k)) xs h in
        let f = first y.0 y.1 in
        subst (λ (l : List ℕ). RisingIn k m l × (length l ≡ suc t)) (sym y.2) ((omega arith, omega arith, f.0), ap suc f.1)
    go first rest (inr h) = let f = rest h in (rising-weaken k (suc k) m xs (omega arith) f.0, f.1)

-- and every such list is in it
has : (r t k m : ℕ) → k + r ≡ m → (xs : List ℕ) → RisingIn k m xs → length xs ≡ t → xs ∈ choose_from r t k
unfolding choose_from
has zero zero k m e [] f l = here refl
has zero (suc t) k m e [] f l = absurd (omega arith)
has zero t k m e (x ∷ xs) f l = absurd (omega arith)
has (suc r) zero k m e [] f l = here refl
has (suc r) (suc t) k m e [] f l = absurd (omega arith)
has (suc r) zero k m e (x ∷ xs) f l = absurd (omega arith)
has (suc r) (suc t) k m e (x ∷ xs) f l =
    go (has r t (suc k) m (omega arith) xs) (has r (suc t) (suc k) m (omega arith) (x ∷ xs)) (eq-or-lt_of_le f.0)
  where
    go : (RisingIn (suc k) m xs → length xs ≡ t → xs ∈ choose_from r t (suc k))
        → (RisingIn (suc k) m (x ∷ xs) → length (x ∷ xs) ≡ suc t → x ∷ xs ∈ choose_from r (suc t) (suc k))
        → (k ≡ x) ⊎ (k < x) → x ∷ xs ∈ map (λ l. k ∷ l) (choose_from r t (suc k)) ++ choose_from r (suc t) (suc k)
    go first rest (inl p) =
        Memᴰ.append_left (choose_from r (suc t) (suc k)) (Memᴰ.cast (ap {B = List ℕ} (λ y. y ∷ xs) (sym p))
        (Memᴰ.map (λ l. k ∷ l) (first (subst (λ (y : ℕ). RisingIn (suc y) m xs) (sym p) f.2) (suc_inj l))))
    go first rest (inr h) = Memᴰ.append_right (map (λ l. k ∷ l) (choose_from r t (suc k))) (rest (h, f.1, f.2) l)

pub choose-iff : (t m : ℕ) (xs : List ℕ) → (xs ∈ choose t m) ↔ (RisingIn 0 m xs × (length xs ≡ t))
unfolding choose
choose-iff t m xs = (chosen m t 0 m (zero-add m) xs, λ h. has m t 0 m (zero-add m) xs h.0 h.1)

-- a first number put before each list of a sorted list
pairwise_cons : (k : ℕ) (ls : List (List ℕ)) → Pairwise Before ls → Pairwise Before (map (λ l. k ∷ l) ls)
pairwise_cons k ls p = pairwise_map Before (λ l. k ∷ l) ls (pairwise-imp (λ v w b. before_same k v w b) ls p)

sorted : (r t k : ℕ) → Pairwise Before (choose_from r t k)
unfolding choose_from
sorted zero zero k = (λ y h. elim h [ ], tt)
sorted zero (suc t) k = tt
sorted (suc r) zero k = (λ y h. elim h [ ], tt)
sorted (suc r) (suc t) k =
    pairwise_append Before (map (λ l. k ∷ l) (choose_from r t (suc k))) (choose_from r (suc t) (suc k))
    (pairwise_cons k (choose_from r t (suc k)) (sorted r t (suc k))) (sorted r (suc t) (suc k)) across
  where
    later : (l ys : List ℕ) → RisingIn (suc k) (suc k + r) ys → length ys ≡ suc t → Before (k ∷ l) ys
    later l [] f e = absurd (omega arith)
    later l (y ∷ ys) f e = before-less k y l ys f.0

    across : (xs ys : List ℕ) → xs ∈ map (λ l. k ∷ l) (choose_from r t (suc k)) → ys ∈ choose_from r (suc t) (suc k) → Before xs ys
    across xs ys h g =
        let x = map-mem (λ l. k ∷ l) (choose_from r t (suc k)) xs h in
        let y = chosen r (suc t) (suc k) (suc k + r) refl ys g in
        subst (λ (zs : List ℕ). Before zs ys) (sym x.2) (later x.0 ys y.0 y.1)

-- it is in dictionary order, with no list twice
pub choose-sorted : (t m : ℕ) → Pairwise Before (choose t m)
unfolding choose
choose-sorted t m = sorted m t 0
