-- Ties broken by dictionary order, through weights alone. The tie number of a list of edge numbers below m is a number in base two with a digit
-- for each edge, the smallest edge first: of two strictly rising lists of one length, the one that is before in dictionary order has the greater
-- tie number. So a weight that is led by a cost s and trails by that digit orders sums by the cost first and by dictionary order
-- where the costs are equal.
use Rattle.std.specs.Prelude.{Bool, true, List, [], ◌∷◌, ◌⊎◌, ◌≡◌, refl, ℕ, suc, ◌+◌, ◌-◌, ◌*◌, ◌^◌, ◌≤◌, ◌<◌, leb, length}
use Rattle.std.proofs.Common.{inl, inr, sym, ap, ap₂, ◌∙◌, subst, pow-suc, add-mul, zero-mul, suc-mul, mul-le-mul_right, le_of_lt, le_of_eq, add-zero, arith, pow_pos, pow_mono, le-leb}
use Rattle.std.proofs.Math.Nat.{sub-zero, suc_inj}
use Rattle.std.proofs.lemmas.Bool.{lt-leb}
use Rattle.order.specs.Test.{by-test, clash}
use Rattle.order.specs.Perm.{sum}
use Rattle.order.specs.Order.{dictionary, orderℕ, pair_le, pairs, tie_break}
use Rattle.order.proofs.Order.{le_refl, less→le, pair-less, pair_of}
use Rattle.spanning.specs.Rising.{Before, RisingIn}
use Rattle.spanning.proofs.Rising.{before-cases, before-or-after, trichotomy}
use Rattle.spanning.specs.Ties.{digit, tie_number, tie_weight}

-- all digits from k on are less than one digit before
pub tie-number-lt : (k m : ℕ) (xs : List ℕ) → RisingIn k m xs → tie_number m xs < 2 ^ (m - k)
tie-number-lt k m [] r = pow_pos (m - k)
tie-number-lt k m (x ∷ xs) r =
    let below : tie_number m xs < 2 ^ (m - suc x) = tie-number-lt (suc x) m xs r.2 in
    let twice : 2 ^ suc (m - suc x) ≡ 2 ^ (m - suc x) * 2 = pow-suc 2 (m - suc x) in
    let up : 2 ^ suc (m - suc x) ≤ 2 ^ (m - k) = pow_mono (omega arith) in
    omega arith

pub before-tie-number : (m j k : ℕ) (xs ys : List ℕ) → RisingIn j m xs → RisingIn k m ys → length xs ≡ length ys → Before xs ys
    → tie_number m ys < tie_number m xs
before-tie-number m j k [] [] r s l t = clash refl t
before-tie-number m j k [] (y ∷ ys) r s l t = absurd (omega arith)
before-tie-number m j k (x ∷ xs) [] r s l t = clash refl t
before-tie-number m j k (x ∷ xs) (y ∷ ys) r s l t = go (before-tie-number m (suc x) (suc y) xs ys r.2 s.2 (suc_inj l)) (before-cases x y xs ys t)
  where
    go : (Before xs ys → tie_number m ys < tie_number m xs) → (x < y) ⊎ ((x ≡ y) × Before xs ys) → tie_number m (y ∷ ys) < tie_number m (x ∷ xs)
    go below (inl h) =
        let p : tie_number m (y ∷ ys) < 2 ^ (m - y) = tie-number-lt y m (y ∷ ys) (omega arith, s.1, s.2) in
        let q : 2 ^ (m - y) ≤ 2 ^ (m - suc x) = pow_mono (omega arith) in
        omega arith
    go below (inr h) =
        let p : digit m x ≡ digit m y = ap (digit m) h.0 in
        let q : tie_number m ys < tie_number m xs = below h.1 in
        omega arith

-- the sum of the weights, written without a difference
pub sum-tie : (s : ℕ → ℕ) (m : ℕ) (xs : List ℕ) → sum (tie_weight s m) xs + tie_number m xs ≡ (sum s xs + length xs) * 2 ^ m
unfolding tie_weight
sum-tie s m [] = let z = zero-mul (2 ^ m) in omega arith
sum-tie s m (x ∷ xs) =
    let below = sum-tie s m xs in
    let fits : digit m x ≤ 2 ^ m = pow_mono (omega arith) in
    omega (
      arith,
      add-mul (s x + sum s xs) (suc (length xs)) (2 ^ m),
      add-mul (s x) (sum s xs) (2 ^ m),
      suc-mul (length xs) (2 ^ m),
      add-mul (sum s xs) (length xs) (2 ^ m),
    )

-- a smaller cost outweighs every tie number; where the costs are equal the tie number decides
cost-first : (s : ℕ → ℕ) (m : ℕ) (xs ys : List ℕ) → RisingIn 0 m ys → length xs ≡ length ys → sum s xs < sum s ys
    → sum (tie_weight s m) xs < sum (tie_weight s m) ys
cost-first s m xs ys r l h =
    let small : tie_number m ys < 2 ^ m = rw sub-zero at (tie-number-lt 0 m ys r) in
    let more : suc (sum s xs + length xs) * 2 ^ m ≤ (sum s ys + length ys) * 2 ^ m = mul-le-mul_right (2 ^ m) (omega arith) in
    omega (arith, sum-tie s m xs, sum-tie s m ys, suc-mul (sum s xs + length xs) (2 ^ m))

tie-number-next : (s : ℕ → ℕ) (m : ℕ) (xs ys : List ℕ) → length xs ≡ length ys → sum s xs ≡ sum s ys → tie_number m ys < tie_number m xs
    → sum (tie_weight s m) xs < sum (tie_weight s m) ys
tie-number-next s m xs ys l p h =
    let same : (sum s xs + length xs) * 2 ^ m ≡ (sum s ys + length ys) * 2 ^ m = ap₂ (λ (a b : ℕ). (a + b) * 2 ^ m) p l in
    omega (arith, sum-tie s m xs, sum-tie s m ys)

-- To compare two lists by cost, then dictionary order, is to compare the sums of their weights
pub tie-lists : (s : ℕ → ℕ) (m : ℕ) (xs ys : List ℕ) → RisingIn 0 m xs → RisingIn 0 m ys → length xs ≡ length ys
    → pair_le orderℕ (dictionary orderℕ) (sum s xs, xs) (sum s ys, ys) ≡ leb (sum (tie_weight s m) xs) (sum (tie_weight s m) ys)
tie-lists s m xs ys r q l = go (trichotomy (sum s xs) (sum s ys)) (before-or-after xs ys)
  where
    w : List ℕ → ℕ
    w = sum (tie_weight s m)

    lower : pair_le orderℕ (dictionary orderℕ) (sum s xs, xs) (sum s ys, ys) ≡ true → w xs ≤ w ys
        → pair_le orderℕ (dictionary orderℕ) (sum s xs, xs) (sum s ys, ys) ≡ leb (w xs) (w ys)
    lower e h = e ∙ sym (le-leb (w xs) (w ys) h)

    go : (sum s xs < sum s ys) ⊎ ((sum s xs ≡ sum s ys) ⊎ (sum s ys < sum s xs)) → Before xs ys ⊎ ((xs ≡ ys) ⊎ Before ys xs)
        → pair_le orderℕ (dictionary orderℕ) (sum s xs, xs) (sum s ys, ys) ≡ leb (w xs) (w ys)
    go (inl h) t =
        lower (pair-less orderℕ (dictionary orderℕ) (sum s xs, xs) (sum s ys, ys) (lt-leb (sum s ys) (sum s xs) h)) (le_of_lt (cost-first s m xs ys q l h))
    go (inr (inr h)) t = rw (lt-leb (sum s xs) (sum s ys) h) (sym (lt-leb (w xs) (w ys) (cost-first s m ys xs r (sym l) h)))
    go (inr (inl p)) (inl b) =
        lower
        (pair_of orderℕ (dictionary orderℕ) (sum s xs, xs) (sum s ys, ys) (le-leb (sum s xs) (sum s ys) (le_of_eq p)) (less→le (dictionary orderℕ) xs ys b))
        (le_of_lt (tie-number-next s m xs ys l p (before-tie-number m 0 0 xs ys r q l b)))
    go (inr (inl p)) (inr (inl e)) =
        lower
        (subst (λ (zs : List ℕ). pair_le orderℕ (dictionary orderℕ) (sum s xs, xs) (sum s zs, zs) ≡ true) e
        (le_refl (pairs orderℕ (dictionary orderℕ)) (sum s xs, xs)))
        (le_of_eq (ap w e))
    go (inr (inl p)) (inr (inr b)) =
        rw (le-leb (sum s xs) (sum s ys) (le_of_eq p), le-leb (sum s ys) (sum s xs) (le_of_eq (sym p)), b)
        (sym (lt-leb (w xs) (w ys) (tie-number-next s m ys xs (sym l) (sym p) (before-tie-number m 0 0 ys xs q r (sym l) b))))

-- and to compare two edges by cost, then number, is to compare their weights
pub tie-edges : (s : ℕ → ℕ) (m e f : ℕ) → e < m → f < m → pair_le orderℕ orderℕ (s e, e) (s f, f) ≡ leb (tie_weight s m e) (tie_weight s m f)
tie-edges s m e f he hf = first ∙ tie-lists s m (e ∷ []) (f ∷ []) (omega arith, he, tt) (omega arith, hf, tt) refl ∙ last
  where
    -- a list of one edge for the edge
    first : pair_le orderℕ orderℕ (s e, e) (s f, f) ≡ pair_le orderℕ (dictionary orderℕ) (s e + 0, e ∷ []) (s f + 0, f ∷ [])
    first = rw (add-zero (s e), add-zero (s f)) (ap (λ (t : Bool). tie_break (leb (s e) (s f)) (leb (s f) (s e)) t) one)
      where
        one : leb e f ≡ tie_break (leb e f) (leb f e) true
        one = by-test (leb e f) (λ p. by-test (leb f e) (λ q. rw (p, q)) (λ q. rw (p, q))) (λ p. rw p)

    last : leb (tie_weight s m e + 0) (tie_weight s m f + 0) ≡ leb (tie_weight s m e) (tie_weight s m f)
    last = rw (add-zero (tie_weight s m e), add-zero (tie_weight s m f))
