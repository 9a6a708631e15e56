-- The place of a value in a falling list, and of each ceiling's cost in that ceiling's values.
use Rattle.std.specs.Prelude.{true, false, cond, List, [], ◌∷◌, ◌++◌, ◌≡◌, refl, ℕ, zero, suc, ◌+◌, ◌≤◌, ◌<◌, ℤ, length, get_or, take, drop}
use mathlib.Core.List.Memᴰ.{head as here}
use mathlib.Core.List.Memᴰ.{tail as there}
use Rattle.std.proofs.Common.{sym, ap, ap₂, zero-add, arith}
use Rattle.std.specs.Int.Signed.{le_z}
use Rattle.order.specs.Test.{by-test}
use Rattle.order.proofs.Test.{refute}
use Rattle.order.specs.Lists.{◌∈◌}
use Rattle.order.proofs.Lists.{get_or-mem}
use Rattle.order.specs.Order.{orderℤ, reverse}
use Rattle.order.proofs.Order.{le_refl}
use Rattle.order.specs.Sorted.{insert}
use Rattle.frontier.specs.Frontier.{Picks, picks-cons, picks-nil}
use Rattle.frontier.specs.Places.{AllFalling, Falling, InRange, all_cons, all_nil, in-cons, in-nil, pick}

-- the place of the first value that is at most x, or the number of values
unfoldable pub place_in : ℤ → List ℤ → ℕ
place_in x [] = 0
place_in x (y ∷ l) = let r = suc (place_in x l) in cond (le_z y x) 0 r

-- for each ceiling the place of its cost
abbrev pub places_of : List ℤ → List (List ℤ) → List ℕ
places_of [] ls = []
places_of (x ∷ v) [] = []
places_of (x ∷ v) (l ∷ ls) = place_in x l ∷ places_of v ls

pub place-le : (x : ℤ) (l : List ℤ) → place_in x l ≤ length l
unfolding place_in
place-le x [] = omega arith
place-le x (y ∷ l) = let ih = place-le x l in by-test (le_z y x) (λ e. rw e (omega arith)) (λ e. rw e (omega arith))

-- the value there is at most x
pub place-low : (x : ℤ) (l : List ℤ) (d : ℤ) → place_in x l < length l → le_z (get_or l (place_in x l) d) x ≡ true
unfolding place_in
place-low x [] d h = absurd (omega arith)
place-low x (y ∷ l) d h = by-test (le_z y x) (λ e. rw e e) (λ e. let k : place_in x l < length l = omega (arith, rw e at h) in rw e (place-low x l d k))

-- a member's place, in a falling list
pub place-mem : {x : ℤ} {l : List ℤ} (d : ℤ) → Falling orderℤ l → x ∈ l → (place_in x l < length l) × (x ≡ get_or l (place_in x l) d)
unfolding place_in
place-mem {x} d f (here {x = y} {xs = l} e) = let t : le_z y x ≡ true = rw (← e) (le_refl orderℤ x) in rw t (omega arith, e)
place-mem {x} d f (there {x = y} {xs = l} m) =
    let w = place-mem d f.1 m in
    let h = w.0 in
    rw (f.0 x m) (omega arith, w.1)

-- the places of costs that are among the values
pub places-of : (d : ℤ) {v : List ℤ} {ls : List (List ℤ)} → Picks v ls → AllFalling orderℤ ls → InRange (places_of v ls) ls × (v ≡ pick d (places_of v ls) ls)
places-of d picks-nil all_nil = (in-nil, refl)
places-of d (picks-cons m p) (all_cons f fs) =
    let w = place-mem d f m in
    let r = places-of d p fs in
    (in-cons w.0 r.0, ap₂ (λ (x : ℤ) (v : List ℤ). x ∷ v) w.1 r.1)

-- a value at most that at place i has its place from i on
pub place-from : (x : ℤ) (l : List ℤ) → Falling orderℤ l → (i : ℕ) (d : ℤ) → i < length l → le_z x (get_or l i d) ≡ true
    → place_in x l ≡ i + place_in x (drop i l)
unfolding place_in
place-from x [] f i d h e = absurd (omega arith)
place-from x (y ∷ l) f zero d h e = sym (zero-add (place_in x (y ∷ l)))
place-from x (y ∷ l) f (suc i) d h e =
    let short : i < length l = omega arith in
    let there = get_or l i d in
    let above : le_z y x ≡ false = refute (le_z y x) (le_z y there) (λ q. orderℤ.le_trans y x there q e) (f.0 there (get_or-mem l i d short)) in
    let later = place-from x l f.1 i d short e in
    rw above (omega arith)

-- where a value is put into a falling list
pub insert-place : (x : ℤ) (l : List ℤ) → insert (reverse orderℤ) (λ v. v) x l ≡ take (place_in x l) l ++ (x ∷ drop (place_in x l) l)
unfolding place_in
insert-place x [] = refl
insert-place x (y ∷ l) = by-test (le_z y x) (λ e. rw e) (λ e. rw e (ap (λ (r : List ℤ). y ∷ r) (insert-place x l)))
