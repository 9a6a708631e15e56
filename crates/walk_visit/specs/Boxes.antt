-- Boxes of positions, for any number of ceilings with falling values: the sides that the code finds are those from some places through others, and
-- where these are no earlier the box lies inside the marks.
use Rattle.std.specs.Prelude.{true, ◌≡◌, ℤ, pos, drop}
use mathlib.Core.List.{List, [], ◌∷◌}
use Rattle.std.proofs.Math.Path.{refl, sym, ap, ap₂}
use Rattle.std.proofs.Common.{◌∙◌, add-mul}
use Prim.Native.Nat.{ℕ, zero, suc, ◌+◌, ◌*◌, ◌-◌, ◌≤◌, ◌<◌}
use Rattle.std.proofs.Math.Nat.{mul_comm}
use native.Mathlib.Omega.{arith}
use borrow.Author.Tests.{leb-true}
use Rattle.std.proofs.Math.ListN.{get_or, length, take}
use Rattle.std.proofs.lemmas.List.{length-map}
use Rattle.std.proofs.Math.Seq.{get_or-drop, get_or-take}
use Rattle.order.specs.Order.{orderℕ, orderℤ}
use Rattle.frontier.specs.Dominance.{le_all}
use Rattle.frontier.proofs.Dominance.{le_all-head, le_all-tail}
use Rattle.frontier.specs.Frontier.{Picks, picks-cons, picks-nil, product}
use Rattle.frontier.specs.Places.{AllFalling, InRange, all_cons, all_nil, in-cons, in-nil, number, pick}
use Rattle.frontier.proofs.Places.{number_lt}
use Rattle.network.specs.Tabulate.{tabulate}
use Rattle.network.proofs.Tabulate.{tabulate-first, tabulate-none, tabulate-same}
use Rattle.marking.specs.Place.{place-from, place_in, places_of}
use Rattle.marking.specs.Paint.{side}
use Rattle.marking.specs.Box.{sides}
use Rattle.marking.specs.Settle.{lasts}
use Rattle.marking.specs.Sides.{Inside, no_side, sides_with, span, strides}
use Rattle.marking.specs.declared.mark.Side.{Side}
use Rattle.marking.specs.Digits.{sizes, total-product, weight-last, weights, weights-length, weights-within}
use Rattle.marking.specs.Gridded.{Gridded}
use Rattle.marking.specs.declared.grid.Grid.{Grid}
use Rattle.walk_visit.specs.Found.{bound_at, bounds_at, last_sides, own_side, own_sides}

-- the sides of the box of all positions
abbrev pub grid_sides : {C : Type 0} → List (List C) → List Side
grid_sides ls = sides_with (weights (sizes ls)) (sizes ls)

-- ---- the box from the places `is` through the places `ks`

module _ {C : Type 0} where
  -- as many places as ceilings
  pub range_length : {is : List ℕ} {ls : List (List C)} → InRange is ls → length is ≡ length ls
  range_length in-nil = refl
  range_length (in-cons h p) = ap suc (range_length p)

  -- the place in ceiling k
  pub range_at : {is : List ℕ} {ls : List (List C)} → InRange is ls → (k : ℕ) → k < length ls → get_or is k 0 < length (get_or ls k [])
  range_at in-nil k h = absurd (omega arith)
  range_at (in-cons h p) zero g = h
  range_at (in-cons h p) (suc k) g = range_at p k (omega arith)

  -- as many sides as ceilings, and as many places of a side as the ceiling has values
  pub grid-length : (ls : List (List C)) → length (grid_sides ls) ≡ length ls
  unfolding sides_with weights
  grid-length [] = refl
  grid-length (l ∷ ls) = ap suc (grid-length ls)

  pub grid-count : (ls : List (List C)) (k : ℕ) → k < length ls → (get_or (grid_sides ls) k no_side).count ≡ length (get_or ls k [])
  unfolding sides_with weights
  grid-count [] k h = absurd (omega arith)
  grid-count (l ∷ ls) zero h = refl
  grid-count (l ∷ ls) (suc k) h = grid-count ls k (omega arith)

  -- its strides
  box-strides : {is ks : List ℕ} {ls : List (List C)} → InRange is ls → InRange ks ls → strides (sides is ks ls) ≡ weights (sizes ls)
  unfolding weights
  box-strides in-nil in-nil = refl
  box-strides (in-cons {ls = ls} h p) (in-cons g q) = ap₂ (λ (n : ℕ) (ns : List ℕ). n ∷ ns) (sym (total-product ls)) (box-strides p q)

  -- its last position
  span-number : {is ks : List ℕ} {ls : List (List C)} → InRange is ls → InRange ks ls → le_all orderℕ is ks ≡ true
      → number is ls + span (sides is ks ls) ≡ number ks ls
  unfolding span
  span-number in-nil in-nil e = refl
  span-number (in-cons {i = i} {is = is} {ls = ls} h p) (in-cons {i = k} {is = ks} g q) e =
      let le = leb-true i k (le_all-head orderℕ i k is ks e) in
      let rest = span-number p q (le_all-tail orderℕ i k is ks e) in
      let step : suc k - i - 1 ≡ k - i = omega arith in
      let all : i + (k - i) ≡ k = omega arith in
      let split : i * product ls + (k - i) * product ls ≡ k * product ls = sym (add-mul i (k - i) (product ls)) ∙ ap (λ (n : ℕ). n * product ls) all in
      rw (step, mul_comm (product ls) (k - i)) (omega (arith, rest, split))

  -- it lies inside the marks
  pub box-inside : {is ks : List ℕ} {ls : List (List C)} → InRange is ls → InRange ks ls → le_all orderℕ is ks ≡ true → {size : ℕ} → product ls ≤ size
      → Inside (sides is ks ls) (number is ls) size
  box-inside {is} {ks} {ls} from to later {size} room =
      let all = total-product ls in
      let some = number_lt from in
      let are = box-strides from to in
      let many : length (sides is ks ls) ≡ length (weights (sizes ls)) = sym (length-map (sides is ks ls) (λ (r : Side). r.stride)) ∙ ap length are in
      record {
        last = omega (arith, span-number from to later, number_lt to);
        short = λ k h. rw are (omega (arith, weights-within (sizes ls) (omega arith) k (omega (arith, many))));
        dense = λ k h. rw are (weight-last (sizes ls) k (h ∙ many ∙ weights-length (sizes ls)));
      }

-- ---- the sides that the code finds

-- to the last places
pub last-sides : {C : Type 0} {is : List ℕ} {ls : List (List C)} → InRange is ls → last_sides (grid_sides ls) is ≡ sides is (lasts ls) ls
unfolding last_sides sides_with weights
last-sides in-nil = tabulate-none _
last-sides (in-cons {i = i} {l = l} {ls = ls} h p) =
    let count : length l - i ≡ suc (length l - 1) - i = omega arith in
    tabulate-first _ _ ∙ ap₂ (λ (r : Side) (rs : List Side). r ∷ rs) (ap₂ side (total-product ls) count) (last-sides p)

-- through the places of costs that are at most the values at `is`
own_at : {v : List ℤ} {is : List ℕ} {ls : List (List ℤ)} → Picks v ls → AllFalling orderℤ ls → InRange is ls → le_all orderℤ v (pick (pos 0) is ls) ≡ true
    → tabulate (λ k. side (get_or (grid_sides ls) k no_side).stride (place_in (get_or v k (pos 0)) (drop (get_or is k 0) (get_or ls k [])) + 1))
    (length (grid_sides ls)) ≡ sides is (places_of v ls) ls
unfolding sides_with weights
own_at picks-nil all_nil in-nil e = tabulate-none _
own_at (picks-cons {x = x} {v = v} {l = l} {ls = ls} m p) (all_cons f fs) (in-cons {i = i} {is = is} h q) e =
    let bound = get_or l i (pos 0) in
    let low = le_all-head orderℤ x bound v (pick (pos 0) is ls) e in
    let there = place-from x l f i (pos 0) h low in
    let count : place_in x (drop i l) + 1 ≡ suc (place_in x l) - i = omega arith in
    tabulate-first _ _
    ∙ ap₂ (λ (r : Side) (rs : List Side). r ∷ rs) (ap₂ side (total-product ls) count) (own_at p fs q (le_all-tail orderℤ x bound v (pick (pos 0) is ls) e))

module _ {ls : List (List ℤ)} {m : ℕ} {values : List ℤ} {grid : Grid} (g : Gridded ls m values grid) {is : List ℕ} (from : InRange is ls) where
  pub own-sides : {v : List ℤ} → Picks v ls → AllFalling orderℤ ls → le_all orderℤ v (pick (pos 0) is ls) ≡ true
      → own_sides m values (grid_sides ls) is v ≡ sides is (places_of v ls) ls
  unfolding own_sides
  own-sides {v} p fs e =
      tabulate-same (own_side m values (grid_sides ls) is v)
      (λ k. side (get_or (grid_sides ls) k no_side).stride (place_in (get_or v k (pos 0)) (drop (get_or is k 0) (get_or ls k [])) + 1))
      (length (grid_sides ls))
      (λ k h.
      let inside : k < length ls = omega (arith, grid-length ls) in
      ap (λ (l : List ℤ). side (get_or (grid_sides ls) k no_side).stride (place_in (get_or v k (pos 0)) (drop (get_or is k 0) l) + 1))
      (ap (λ (n : ℕ). take n (drop (k * m) values)) (grid-count ls k inside) ∙ g.part k inside))
      ∙ own_at p fs from e

  -- the values at the places
  pub bounds-are : bounds_at m values is ≡ pick (pos 0) is ls
  unfolding bounds_at
  bounds-are =
      tabulate-same (bound_at m values is) (λ k. get_or (get_or ls k []) (get_or is k 0) (pos 0)) (length is)
      (λ k h.
      let inside : k < length ls = omega (arith, range_length from) in
      let low = range_at from k inside in
      sym (ap (λ (l : List ℤ). get_or l (get_or is k 0) (pos 0)) (sym (g.part k inside))
      ∙ get_or-take (length (get_or ls k [])) (drop (k * m) values) (get_or is k 0) (pos 0) low ∙ get_or-drop (k * m) values (get_or is k 0) (pos 0)))
      ∙ pick_at from
    where
      pick_at : {js : List ℕ} {qs : List (List ℤ)} → InRange js qs
          → tabulate (λ k. get_or (get_or qs k []) (get_or js k 0) (pos 0)) (length js) ≡ pick (pos 0) js qs
      pick_at in-nil = tabulate-none _
      pick_at (in-cons {i = i} {l = l} h p) = tabulate-first _ _ ∙ ap (λ (v : List ℤ). get_or l i (pos 0) ∷ v) (pick_at p)
