-- The digits of two patterns, one ceiling after the other.
use Rattle.std.specs.Prelude.{Bool, true, false, List, [], ◌∷◌, ◌≡◌, refl, ℕ, ◌+◌, ◌/◌, ◌%◌, ◌≤◌, ◌<◌, drop, get_or, length}
use Rattle.std.proofs.Common.{add-one, arith, drop_of_length-le, drop-cons, le-ltb, lt-ltb}
use Rattle.kmax.specs.Digits.{admits, ones}

-- two patterns: fewer than the rank have the low digit, and so on
pub pair-more : (ks : List ℕ) (i a b : ℕ) (w : Bool) → i < length ks → a % 2 + b % 2 < get_or ks i 0 → admits (drop i ks) (a ∷ b ∷ []) ≡ w
    → admits (drop (i + 1) ks) (a / 2 ∷ b / 2 ∷ []) ≡ w
unfolding admits ones
pair-more ks i a b w h few e =
    let less : a % 2 + (b % 2 + 0) < get_or ks i 0 = omega arith in
    rw (add-one i) (rw (drop-cons ks i 0 h, lt-ltb (a % 2 + (b % 2 + 0)) (get_or ks i 0) less) at e)

pub pair-many : (ks : List ℕ) (i a b : ℕ) (w : Bool) → i < length ks → get_or ks i 0 ≤ a % 2 + b % 2 → admits (drop i ks) (a ∷ b ∷ []) ≡ w → false ≡ w
unfolding admits ones
pair-many ks i a b w h many e =
    let more : get_or ks i 0 ≤ a % 2 + (b % 2 + 0) = omega arith in
    rw (drop-cons ks i 0 h, le-ltb (a % 2 + (b % 2 + 0)) (get_or ks i 0) more) at e

pub pair_end : (ks : List ℕ) (i a b : ℕ) (w : Bool) → length ks ≤ i → admits (drop i ks) (a ∷ b ∷ []) ≡ w → true ≡ w
unfolding admits
pair_end ks i a b w h e = rw (drop_of_length-le ks h) at e

-- a pattern without digits changes nothing
pub alone : (ks : List ℕ) (x : ℕ) → admits ks (x ∷ 0 ∷ []) ≡ admits ks (x ∷ [])
unfolding admits ones
alone [] x = refl
alone (k ∷ ks) x =
    let z : 0 / 2 ≡ 0 = omega arith in
    let n : x % 2 + (0 % 2 + 0) ≡ x % 2 + 0 = omega arith in
    rw (z, n, alone ks (x / 2))
