-- Positions by places: a position is a place in each ceiling's falling list of values. Its number in the walk, and what an answer settles,
-- are found from the places alone: from this place through the place of the solution's own cost.
use Rattle.std.specs.Prelude.{true, ◌&&◌, List, [], ◌∷◌, map, ◌≡◌, refl, ℕ, suc, ◌+◌, ◌*◌, ◌<◌, zero, ◌/◌, ◌%◌, leb, length, get_or}
use Rattle.std.proofs.Common.{inl, inr, sym, ap, ap₂, ◌∙◌, mul-le-mul_right, mod-lt, div-add-mod', div-lt_iff_lt-mul, arith, get_or-append-add, leb-true, leb-false}
use Rattle.std.proofs.Math.Option.{none, some}
use Rattle.std.proofs.lemmas.List.{length-map}
use Rattle.std.proofs.Math.ListN.{get_or-append}
use Rattle.order.specs.Test.{Decided}
use Rattle.order.proofs.Test.{decide}
use Rattle.order.proofs.Lists.{get_or_map, get_or-mem, mem-get_or}
use Rattle.order.specs.Order.{Less, TotalOrder, orderℕ, reverse}
use Rattle.order.proofs.Order.{le_refl, less→le}
use Rattle.order.proofs.Perm.{pairwise-at}
use Rattle.frontier.specs.Dominance.{le_all}
use Rattle.frontier.specs.Frontier.{Picks, Problem, picks-cons, picks-nil, positions, prefix_each, product, settles}
use Rattle.frontier.proofs.Walk.{positions-length}
use Rattle.frontier.specs.Places.{AllFalling, Falling, InRange, all_cons, all_nil, in-cons, in-nil, number, pick, places}

module _ {C : Type 0} (O : TotalOrder C) where
  falling-lt : (l : List C) → Falling O l → (i j : ℕ) (d : C) → i < j → j < length l → Less O (get_or l j d) (get_or l i d)
  falling-lt l f i j d h k = pairwise-at (λ x y. Less (reverse O) x y) l f i j d h k

  -- a later place holds a lower value
  pub falling-le : (l : List C) → Falling O l → (i j : ℕ) (d : C) → i < length l → j < length l → O.le (get_or l j d) (get_or l i d) ≡ leb i j
  falling-le l f i j d h k = go (decide (leb i j))
    where
      later : leb i j ≡ true → Decided (leb j i) → O.le (get_or l j d) (get_or l i d) ≡ true
      later p (inl q) = let e : i ≡ j = omega (arith, leb-true i j p, leb-true j i q) in rw e (le_refl O (get_or l j d))
      later p (inr q) = less→le O (get_or l j d) (get_or l i d) (falling-lt l f i j d (leb-false j i q) k)

      go : Decided (leb i j) → O.le (get_or l j d) (get_or l i d) ≡ leb i j
      go (inl p) = later p (decide (leb j i)) ∙ sym p
      go (inr p) = falling-lt l f j i d (leb-false i j p) h ∙ sym p

  -- so the values are compared by comparing the places
  pub pick-le : (d : C) {ls : List (List C)} → AllFalling O ls → {is js : List ℕ} → InRange is ls → InRange js ls
      → le_all O (pick d js ls) (pick d is ls) ≡ le_all orderℕ is js
  pick-le d all_nil in-nil in-nil = refl
  pick-le d (all_cons {l = l} f fs) (in-cons {i = i} h p) (in-cons {i = j} k q) = ap₂ ◌&&◌ (falling-le l f i j d h k) (pick-le d fs p q)

-- the numbers of positions
pub factor-pos : (a b n : ℕ) → n < a * b → 0 < b
factor-pos a zero n h = absurd (omega arith)
factor-pos a (suc b) n h = omega arith

module _ {C : Type 0} where
  pub number_lt : {is : List ℕ} {ls : List (List C)} → InRange is ls → number is ls < product ls
  number_lt in-nil = omega arith
  number_lt (in-cons {i = i} {is = is} {l = l} {ls = ls} h p) = omega (arith, number_lt p, mul-le-mul_right (product ls) h)

  -- `number` and `places` are inverse on the positions of the walk
  pub places-range : (ls : List (List C)) (n : ℕ) → n < product ls → InRange (places ls n) ls
  places-range [] n h = in-nil
  places-range (l ∷ ls) n h =
      let k = factor-pos (length l) (product ls) n h in
      in-cons ((div-lt_iff_lt-mul k).1 h) (places-range ls (n % product ls) (mod-lt n k))

  pub places-number : (ls : List (List C)) (n : ℕ) → n < product ls → number (places ls n) ls ≡ n
  places-number [] n h = omega arith
  places-number (l ∷ ls) n h =
      let k = factor-pos (length l) (product ls) n h in
      ap (λ (m : ℕ). n / product ls * product ls + m) (places-number ls (n % product ls) (mod-lt n k)) ∙ div-add-mod' n (product ls)

module _ {C : Type 0} (d : C) where
  -- the values at places are a position, and a position has places
  pub pick-picks : {is : List ℕ} {ls : List (List C)} → InRange is ls → Picks (pick d is ls) ls
  pick-picks in-nil = picks-nil
  pick-picks (in-cons {i = i} {l = l} h p) = picks-cons (get_or-mem l i d h) (pick-picks p)

  pub picks-places : {v : List C} {ls : List (List C)} → Picks v ls → (is : List ℕ) × InRange is ls × (v ≡ pick d is ls)
  picks-places picks-nil = ([], in-nil, refl)
  picks-places (picks-cons m p) =
      let i = mem-get_or d m in
      let w = picks-places p in
      (i.0 ∷ w.0, in-cons i.1 w.1, ap₂ ◌∷◌ i.2 w.2)

  -- a position stands in the walk at its number
  prefix_each-at : (l : List C) (qs : List (List C)) (i j : ℕ) → i < length l → j < length qs
      → get_or (prefix_each l qs) (i * length qs + j) [] ≡ get_or l i d ∷ get_or qs j []
  prefix_each-at [] qs i j h k = absurd (omega arith)
  prefix_each-at (x ∷ l) qs zero j h k =
      let e : 0 * length qs + j ≡ j = omega arith in
      rw e (get_or-append (map (λ (q : List C). x ∷ q) qs) (prefix_each l qs) [] j (simp length-map k) ∙ get_or_map (λ (q : List C). x ∷ q) qs j [] [] k)
  prefix_each-at (x ∷ l) qs (suc i) j h k =
      let e : suc i * length qs + j ≡ length (map (λ (q : List C). x ∷ q) qs) + (i * length qs + j) = simp length-map (omega arith) in
      rw e (get_or-append-add (map (λ (q : List C). x ∷ q) qs) (prefix_each l qs) (i * length qs + j) [] ∙ prefix_each-at l qs i j (omega arith) k)

  pub positions-number : {is : List ℕ} {ls : List (List C)} → InRange is ls → get_or (positions ls) (number is ls) [] ≡ pick d is ls
  positions-number in-nil = refl
  positions-number (in-cons {i = i} {is = is} {l = l} {ls = ls} h p) =
      let k : number is ls < length (positions ls) = rw positions-length (number_lt p) in
      ap (λ (n : ℕ). get_or (prefix_each l (positions ls)) (i * n + number is ls) []) (sym (positions-length ls))
      ∙ prefix_each-at l (positions ls) i (number is ls) h k ∙ ap (λ (v : List C). get_or l i d ∷ v) (positions-number p)

-- an answer settles the positions from its own place through the place of the solution's costs, or, with none, from its own place on
module _ {C S : Type 0} (P : Problem C S) (d : C) (fall : AllFalling P.order P.values) {is js : List ℕ}
    (from : InRange is P.values) (at : InRange js P.values) where
  pub settles-none : settles P (pick d is P.values) none (pick d js P.values) ≡ le_all orderℕ is js
  settles-none = pick-le P.order d fall from at

  pub settles-some : {ks : List ℕ} → InRange ks P.values → (s : S) → P.ceilings s ≡ pick d ks P.values
      → settles P (pick d is P.values) (some s) (pick d js P.values) ≡ le_all orderℕ js ks && le_all orderℕ is js
  settles-some to s e = rw e (ap₂ ◌&&◌ (pick-le P.order d fall at to) (pick-le P.order d fall from at))
