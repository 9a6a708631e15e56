-- What an answer settles, in marks: for any number of ceilings whose values are in falling order.
use Rattle.std.specs.Prelude.{Bool, true, false, ◌||◌, ◌&&◌, List, [], map, ◌≡◌, refl, ℕ, ◌-◌, ◌≤◌, ◌<◌, length, get_or}
use Rattle.std.proofs.Math.Option.{Option, none, some}
use Rattle.std.proofs.Common.{sym, ap, ap₂, ◌∙◌, zero-add, arith, le-leb}
use Rattle.order.specs.Order.{orderℕ}
use Rattle.frontier.proofs.Best.{best-some}
use Rattle.frontier.specs.Dominance.{le_all}
use Rattle.frontier.specs.Frontier.{Problem, best, positions, product, settles}
use Rattle.frontier.specs.Places.{AllFalling, InRange, in-cons, in-nil, pick}
use Rattle.frontier.proofs.Places.{pick-le}
use Rattle.frontier.specs.Places.{places}
use Rattle.frontier.proofs.Places.{places-number, places-range, positions-number, settles-none, settles-some}
use Rattle.marking.specs.Paint.{paint}
use Rattle.marking.specs.Box.{in_box, paint-on, sides}

-- the last place of each ceiling
abbrev pub lasts : {C : Type 0} → List (List C) → List ℕ
lasts ls = map (λ l. length l - 1) ls

module _ {C : Type 0} where
  -- the last places are places, and no place is beyond them
  pub lasts-range : {is : List ℕ} {ls : List (List C)} → InRange is ls → InRange (lasts ls) ls
  lasts-range in-nil = in-nil
  lasts-range (in-cons {l = l} h p) = let g : length l - 1 < length l = omega arith in in-cons g (lasts-range p)

  pub lasts-le : {js : List ℕ} {ls : List (List C)} → InRange js ls → le_all orderℕ js (lasts ls) ≡ true
  lasts-le in-nil = refl
  lasts-le (in-cons {i = j} {l = l} h p) = ap₂ ◌&&◌ (le-leb j (length l - 1) (omega arith)) (lasts-le p)

-- the marks ms' that the answer o at position n leaves of the marks ms
abbrev pub Settled : {C S : Type 0} → Problem C S → ℕ → Option S → List Bool → List Bool → Type 0
Settled P n o ms ms' = (x : ℕ) → x < product P.values
    → get_or ms' x false ≡ settles P (get_or (positions P.values) n []) o (get_or (positions P.values) x []) || get_or ms x false

-- Position n (d stands for a place out of range)
module _ {C S : Type 0} (P : Problem C S) (d : C) (n : ℕ) (h : n < product P.values) where
  open P use {order, ceilings, values}

  -- its values
  pub position_at : get_or (positions values) n [] ≡ pick d (places values n) values
  position_at = ap (λ (k : ℕ). get_or (positions values) k []) (sym (places-number values n h)) ∙ positions-number d (places-range values n h)

  -- a box from it through the places ks, where it is what the answer o settles
  settled-box : {ks : List ℕ} → InRange ks values → (o : Option S)
      → ((js : List ℕ) → InRange js values → settles P (pick d (places values n) values) o (pick d js values) ≡ in_box (places values n) ks js)
      → (ms : List Bool) → product values ≤ length ms → Settled P n o ms (paint (sides (places values n) ks values) n ms)
  settled-box {ks} to o box ms room x g =
      let is = places values n in
      let js = places values x in
      let at : InRange js values = places-range values x g in
      let painted : get_or (paint (sides is ks values) n ms) x false ≡ in_box is ks js || get_or ms x false =
      simp (zero-add, places-number values n h, places-number values x g) at (paint-on (places-range values n h) to at 0 ms (rw zero-add room)) in
      let same : settles P (get_or (positions values) n []) o (get_or (positions values) x []) ≡ in_box is ks js =
      ap₂ (λ (b c : List C). settles P b o c) position_at
      (ap (λ (k : ℕ). get_or (positions values) k []) (sym (places-number values x g)) ∙ positions-number d at) ∙ box js at in
      painted ∙ ap (λ (b : Bool). b || get_or ms x false) (sym same)

  module _ (fall : AllFalling order values) where
    -- with no solution: a box to the last places
    pub settled-none : (ms : List Bool) → product values ≤ length ms → Settled P n none ms (paint (sides (places values n) (lasts values) values) n ms)
    settled-none ms room =
        settled-box (lasts-range (places-range values n h)) none
        (λ js at. settles-none P d fall (places-range values n h) at ∙ sym (ap (λ (b : Bool). b && le_all orderℕ (places values n) js) (lasts-le at))) ms room

    module _ {ks : List ℕ} (to : InRange ks values) (s : S) (e : ceilings s ≡ pick d ks values) where
      -- with a solution: a box through the places of its costs
      pub settled-some : (ms : List Bool) → product values ≤ length ms → Settled P n (some s) ms (paint (sides (places values n) ks values) n ms)
      settled-some ms room = settled-box to (some s) (λ js at. settles-some P d fall (places-range values n h) at to s e) ms room

      -- these are no earlier
      pub own-later : best P (get_or (positions values) n []) ≡ some s → le_all orderℕ (places values n) ks ≡ true
      own-later b =
          let f = (best-some P (get_or (positions values) n []) s b).passes in
          sym (pick-le order d fall (places-range values n h) to)
          ∙ ap₂ (λ (v w : List C). le_all order v w) (sym e) (sym position_at) ∙ f
