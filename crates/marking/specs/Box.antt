-- Marking the positions from some places through others, in each ceiling: which marks that sets.
use Rattle.std.specs.Prelude.{◌≡◌, refl, ◌⊎◌, Bool, true, false, ◌||◌, ◌&&◌, List, [], ◌∷◌, ℕ, suc, ◌+◌, ◌*◌, ◌-◌, ◌≤◌, ◌<◌, length, get_or, leb}
use Rattle.std.proofs.Common.{sym, ap, ap₂, ◌∙◌, subst, inl, inr, suc-mul, add-mul, mul-le-mul_right, arith, leb-true, leb-false, get_or-set_same, get_or-set_other}
use Rattle.std.proofs.Math.Path.{subst⁻¹}
use Rattle.order.specs.Test.{Decided}
use Rattle.order.proofs.Test.{decide}
use Rattle.order.specs.Order.{orderℕ}
use Rattle.frontier.specs.Dominance.{le_all}
use Rattle.frontier.specs.Frontier.{product}
use Rattle.frontier.specs.Places.{InRange, in-nil, in-cons, number}
use Rattle.frontier.proofs.Places.{number_lt}
use Rattle.marking.specs.declared.mark.Side.{Side}
use Rattle.marking.specs.Paint.{side, sweep, paint, length-paint, Off, On, sweep-off, sweep-on}

-- the sides of the box from the places `is` through the places `ks`
abbrev pub sides : {C : Type 0} → List ℕ → List ℕ → List (List C) → List Side
sides [] ks ls = []
sides (i ∷ is) [] ls = []
sides (i ∷ is) (k ∷ ks) [] = []
sides (i ∷ is) (k ∷ ks) (l ∷ ls) = side (product ls) (suc k - i) ∷ sides is ks ls

-- the places js are in that box
abbrev pub in_box : List ℕ → List ℕ → List ℕ → Bool
in_box is ks js = le_all orderℕ js ks && le_all orderℕ is js

pub and-false : (a : Bool) → a && false ≡ false
and-false true = refl
and-false false = refl

-- y is not among the `size` numbers from base on
abbrev pub Outside : ℕ → ℕ → ℕ → Type 0
Outside base size y = (y < base) ⊎ (base + size ≤ y)

-- the start of a row
row : (base i m o p : ℕ) → base + (i * p + o) + m * p ≡ base + (i + m) * p + o
row base i m o p = omega (arith, add-mul i m p)

-- rows inside a block: what is outside the block is outside each row
row-outside : (base i m k p a y : ℕ) → m < suc k - i → k < a → Outside base (a * p) y → Outside (base + (i + m) * p) p y
row-outside base i m k p a y h g (inl o) = inl (omega arith)
row-outside base i m k p a y h g (inr o) =
    let n : suc (i + m) ≤ a = omega arith in
    inr (omega (arith, mul-le-mul_right p n, suc-mul (i + m) p))

-- a position of another row
row_other : (base i j x p : ℕ) → x < p → (i ≡ j → ⊥) → Outside (base + i * p) p (base + (j * p + x))
row_other base i j x p h ne = go (decide (leb (suc j) i))
  where
    go : Decided (leb (suc j) i) → Outside (base + i * p) p (base + (j * p + x))
    go (inl t) = inl (omega (arith, mul-le-mul_right p (leb-true (suc j) i t), suc-mul j p))
    go (inr t) = let n : suc i ≤ j = omega (arith, leb-false (suc j) i t, ne) in inr (omega (arith, mul-le-mul_right p n, suc-mul i p))

module _ {C : Type 0} where
  -- a box leaves the marks of other positions alone
  pub paint-off : {is ks : List ℕ} {ls : List (List C)} → InRange is ls → InRange ks ls → (base y : ℕ) → Outside base (product ls) y
      → (ms : List Bool) → get_or (paint (sides is ks ls) (base + number is ls) ms) y false ≡ get_or ms y false
  paint-off in-nil in-nil base y o ms = get_or-set_other ms (base + 0) y true false (apart o)
    where
      apart : Outside base 1 y → y ≡ base + 0 → ⊥
      apart (inl h) e = omega arith
      apart (inr h) e = omega arith
  paint-off (in-cons {i = i} {is = is} {l = l} {ls = ls} h p) (in-cons {i = k} {is = ks} g q) base y o ms =
      sweep-off (paint (sides is ks ls)) (length-paint (sides is ks ls)) (product ls) y (suc k - i) (base + (i * product ls + number is ls))
      (λ m r. subst⁻¹ (Off (paint (sides is ks ls)) (length-paint (sides is ks ls)) (product ls) y) (row base i m (number is ls) (product ls))
      (λ ns. paint-off p q (base + (i + m) * product ls) y (row-outside base i m k (product ls) (length l) y r g o) ns)) ms

  -- and sets those of its own
  pub paint-on : {is ks js : List ℕ} {ls : List (List C)} → InRange is ls → InRange ks ls → InRange js ls → (base : ℕ) (ms : List Bool)
      → base + product ls ≤ length ms
      → get_or (paint (sides is ks ls) (base + number is ls) ms) (base + number js ls) false ≡ in_box is ks js || get_or ms (base + number js ls) false
  paint-on in-nil in-nil in-nil base ms h = get_or-set_same ms (base + 0) true false (omega arith)
  paint-on (in-cons {i = i} {is = is} {l = l} {ls = ls} h p) (in-cons {i = k} {is = ks} g q) (in-cons {i = j} {is = js} f r) base ms room =
      go (decide (leb i j)) (decide (leb j k)) (λ ns e. paint-on p q r (base + j * product ls) ns (inside ns e))
    where
      size : ℕ
      size = product ls

      y : ℕ
      y = base + (j * product ls + number js ls)

      fill : ℕ → List Bool → List Bool
      fill = paint (sides is ks ls)

      same : (n : ℕ) (ns : List Bool) → length (fill n ns) ≡ length ns
      same = length-paint (sides is ks ls)

      A : Bool
      A = le_all orderℕ js ks

      B : Bool
      B = le_all orderℕ is js

      inside : (ns : List Bool) → length ns ≡ length ms → base + j * product ls + product ls ≤ length ns
      inside ns e = omega (arith, mul-le-mul_right (product ls) f, suc-mul j (product ls), room)

      -- a turn for another row leaves y alone
      other : (m : ℕ) → (i + m ≡ j → ⊥) → Off fill same size y (base + (i * size + number is ls) + m * size)
      other m ne = subst⁻¹ (Off fill same size y) (row base i m (number is ls) size)
          (λ ns. paint-off p q (base + (i + m) * size) y (row_other base (i + m) j (number js ls) size (number_lt r) ne) ns)

      go : Decided (leb i j) → Decided (leb j k)
          → ((ns : List Bool) → length ns ≡ length ms
          → get_or (fill (base + j * size + number is ls) ns) (base + j * size + number js ls) false ≡ (A && B) || get_or ns (base + j * size + number js ls) false)
          → get_or (sweep fill size (suc k - i) (base + (i * size + number is ls)) ms) y false ≡ ((leb j k && A) && (leb i j && B)) || get_or ms y false
      go (inl s) (inl t) own =
          let low = leb-true i j s in
          let high = leb-true j k t in
          let e : i + (j - i) ≡ j = omega arith in
          let w : base + j * size + number js ls ≡ y = omega arith in
          sweep-on fill same size y (length ms) (A && B) (suc k - i) (base + (i * size + number is ls)) (j - i) (omega arith)
          (λ m g ne. other m (λ z. ne (omega arith)))
          (subst⁻¹ (On fill same size y (length ms) (A && B)) (row base i (j - i) (number is ls) size ∙ ap (λ (n : ℕ). base + n * size + number is ls) e)
          (λ ns d. subst (λ (n : ℕ). get_or (fill (base + j * size + number is ls) ns) n false ≡ (A && B) || get_or ns n false) w (own ns d)))
          ms refl
          ∙ ap (λ (b : Bool). b || get_or ms y false) (sym (ap₂ (λ (u v : Bool). (u && A) && (v && B)) t s))
      go (inr s) t own =
          let low = leb-false i j s in
          sweep-off fill same size y (suc k - i) (base + (i * size + number is ls)) (λ m g. other m (λ z. omega arith)) ms
          ∙ ap (λ (b : Bool). b || get_or ms y false) (sym (ap (λ (v : Bool). (leb j k && A) && (v && B)) s ∙ and-false (leb j k && A)))
      go (inl s) (inr t) own =
          let high = leb-false j k t in
          sweep-off fill same size y (suc k - i) (base + (i * size + number is ls)) (λ m g. other m (λ z. omega arith)) ms
          ∙ ap (λ (b : Bool). b || get_or ms y false) (sym (ap (λ (u : Bool). (u && A) && (leb i j && B)) t))
