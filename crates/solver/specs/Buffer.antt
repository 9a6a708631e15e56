-- The links of a tree written into a buffer: they stand at its front, and the bytes past them stay.
use Rattle.std.specs.Prelude.{ℕ, suc, ◌+◌, ◌<◌, ◌≤◌, Bool, cond, true, false, List, [], ◌∷◌, ◌++◌, ◌≡◌, refl, length, get_or, set, drop, ltb}
use Rattle.std.proofs.Common.{ap, ◌∙◌, add-zero, le_of_suc-le-suc, not-suc-le-zero, add-one, arith, drop_of_length-le, drop-cons, set-set, ltb-false, ltb-true}
use mir.Val.{bool_byte}
use Rattle.order.specs.Test.{by-test}
use Rattle.search_trials.specs.Flags.{rising}

-- a list written into a buffer from place n on
unfoldable pub put_at : ℕ → List ℕ → List ℕ → List ℕ
put_at n [] out = out
put_at n (x ∷ l) out = put_at (suc n) l (set out n x)

-- what is left to write, from the flag of link e on, at place n
unfoldable pub left : List Bool → List ℕ → ℕ → ℕ → List ℕ
left taken out n e = put_at n (rising e (drop e taken)) out

pub put-start : (taken : List Bool) (out : List ℕ) → left taken out 0 0 ≡ put_at 0 (rising 0 taken) out
unfolding left
put-start taken out = refl

-- a byte is written over where links are left
over : (n : ℕ) (l out : List ℕ) (x : ℕ) → 0 < length l → put_at n l (set out n x) ≡ put_at n l out
unfolding put_at
over n [] out x h = absurd (omega arith)
over n (y ∷ l) out x h = ap (put_at (suc n) l) (set-set out n x y)

-- while links are left, link e is one of those with a flag
pub more-flags : (taken : List Bool) (e : ℕ) → 0 < length (rising e (drop e taken)) → e < length taken
unfolding rising
more-flags taken e h =
    by-test (ltb e (length taken))
    (λ k. ltb-true e (length taken) k)
    (λ k. let none = rw (drop_of_length-le taken (ltb-false e (length taken) k)) at h in absurd (omega arith))

-- behind the last flag no links are left
pub none-left : (taken : List Bool) (e : ℕ) → length taken ≤ e → length (rising e (drop e taken)) ≡ 0
unfolding rising
none-left taken e h = rw (drop_of_length-le taken h)

-- one turn: link e is written, and stays where its flag is set; so many links are left
pub put-turn : (taken : List Bool) (out w : List ℕ) (n e t : ℕ) {b : Bool} → n < t → b ≡ get_or taken e false → n + length (rising e (drop e taken)) ≡ t
    → left taken out n e ≡ w
    → (left taken (set out n e) (n + bool_byte b) (e + 1) ≡ w) × (n + bool_byte b + length (rising (e + 1) (drop (e + 1) taken)) ≡ t)
    × (n + bool_byte b ≤ n + 1)
unfolding left rising put_at
put-turn taken out w n e t {b} h q s i =
    let inside : e < length taken = more-flags taken e (omega arith) in
    rw (q, add-one e) (go (get_or taken e false) (rw (drop-cons taken e false inside) at s) (rw (drop-cons taken e false inside) at i))
  where
    rest : List ℕ
    rest = rising (suc e) (drop (suc e) taken)

    go : (b : Bool) → n + length (cond b (e ∷ rest) rest) ≡ t → put_at n (cond b (e ∷ rest) rest) out ≡ w
        → (put_at (n + bool_byte b) rest (set out n e) ≡ w) × (n + bool_byte b + length rest ≡ t) × (n + bool_byte b ≤ n + 1)
    go true s i = (rw add-one i, omega arith, omega arith)
    go false s i = (rw add-zero (over n rest out e (omega arith) ∙ i), omega arith, omega arith)

pub put-end : (taken : List Bool) (out w : List ℕ) (n e t : ℕ) → t ≤ n → n + length (rising e (drop e taken)) ≡ t → left taken out n e ≡ w → out ≡ w
unfolding left put_at
put-end taken out w n e t h s i = go (rising e (drop e taken)) (omega arith) i
  where
    go : (l : List ℕ) → length l ≡ 0 → put_at n l out ≡ w → out ≡ w
    go [] z i = i
    go (x ∷ l) z i = absurd (omega arith)

-- ---- the whole

put-past : (y n : ℕ) (l out : List ℕ) → put_at (suc n) l (y ∷ out) ≡ y ∷ put_at n l out
unfolding put_at
put-past y n [] out = refl
put-past y n (x ∷ l) out = put-past y (suc n) l (set out n x)

pub put_front : (l out : List ℕ) → length l ≤ length out → put_at 0 l out ≡ l ++ drop (length l) out
unfolding put_at
put_front [] out h = refl
put_front (x ∷ l) [] h = absurd (not-suc-le-zero h)
put_front (x ∷ l) (y ∷ out) h = put-past x 0 l out ∙ ap (◌∷◌ x) (put_front l out (le_of_suc-le-suc h))
