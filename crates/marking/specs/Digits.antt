-- Numbers in a mixed radix, one digit for each ceiling, the first ceiling highest: how many there are, weights and digits. They are the product and the
-- places of `frontier`, by the numbers of values alone.
use mathlib.Core.List.{List, [], ◌∷◌, ◌++◌, append-nil, map}
use Rattle.std.specs.Prelude.{◌≡◌, ℕ, zero, suc, ◌+◌, ◌*◌, ◌/◌, ◌%◌, ◌^◌, ◌≤◌, ◌<◌, drop, get_or, set, take}
use Rattle.std.proofs.Math.Path.{refl, ap}
use Rattle.std.proofs.Common.{sym, ap₂, ◌∙◌, le_of_eq, le_trans, mul_comm, mul-le-mul, mul-le-mul_right, pow-suc, add-one, arith, drop_of_length-le, length-drop, length-set, drop-cons, drop-set-lt, get_or-drop, get_or-set_same, take_all, take-suc-set}
use Rattle.std.proofs.Math.Nat.{pow-le-pow_right, pow-zero}
use Rattle.std.proofs.Math.ListN.{length}
use Rattle.std.proofs.Math.Seq.{append_snoc, drop-append_seam, get_or-append_seam}
use Rattle.std.proofs.lemmas.List.{length-append, length_push}
use Rattle.std.specs.List.{push}
use Rattle.marking.specs.Paint.{side}
use Rattle.marking.specs.Sides.{sides_with}
use Rattle.marking.specs.declared.mark.Side.{Side}
use Rattle.frontier.specs.Frontier.{product}
use Rattle.frontier.specs.Places.{places}
use Rattle.network.specs.Capacities.{ceilings_held, links_held}

-- how many positions there are, with so many places in each ceiling
unfoldable pub total : List ℕ → ℕ
total [] = 1
total (m ∷ ms) = m * total ms

-- how far the places of each ceiling are apart
unfoldable pub weights : List ℕ → List ℕ
weights [] = []
weights (m ∷ ms) = total ms ∷ weights ms

-- the places of position n, by the weights
unfoldable pub digits_by : List ℕ → ℕ → List ℕ
digits_by [] n = []
digits_by (w ∷ ws) n = n / w ∷ digits_by ws (n % w)

-- weights that can be divided by
pub record Steps (ws : List ℕ) : Type 0 where
  pub some : (i : ℕ) → i < length ws → 0 < get_or ws i 0

-- few ceilings, each with few places, so that no product of these numbers is too large
pub record Few (ms : List ℕ) : Type 0 where
  pub ceilings : length ms ≤ ceilings_held
  pub each : (i : ℕ) → i < length ms → get_or ms i 0 ≤ links_held

-- ---- the same of the values of a problem

module _ {C : Type 0} where
  abbrev pub sizes : List (List C) → List ℕ
  sizes ls = map length ls

  pub total-product : (ls : List (List C)) → total (sizes ls) ≡ product ls
  unfolding total
  total-product [] = refl
  total-product (l ∷ ls) = ap (λ (n : ℕ). length l * n) (total-product ls)

  pub digits-places : (ls : List (List C)) (n : ℕ) → digits_by (weights (sizes ls)) n ≡ places ls n
  unfolding weights digits_by
  digits-places [] n = refl
  digits-places (l ∷ ls) n = rw (total-product ls) (ap (λ (is : List ℕ). n / product ls ∷ is) (digits-places ls (n % product ls)))

-- ---- sides from the last ceiling to the first: none, one ceiling more

pub total-none : (ms : List ℕ) (i : ℕ) → length ms ≤ i → 1 ≡ total (drop i ms)
unfolding total
total-none ms i h = rw (drop_of_length-le ms h)

pub sides-none : (rs : List Side) (ms : List ℕ) (i : ℕ) → length rs ≤ i → length ms ≤ i → drop i rs ≡ sides_with (weights (drop i ms)) (drop i ms)
unfolding weights sides_with
sides-none rs ms i h g = rw (drop_of_length-le rs h, drop_of_length-le ms g)

module _ (ms : List ℕ) (i j : ℕ) (next : j ≡ i + 1) (h : i < length ms) where
  behind : drop j ms ≡ drop (suc i) ms
  behind = ap (λ (k : ℕ). drop k ms) (next ∙ add-one i)

  pub total-turn : total (drop j ms) * get_or ms i 0 ≡ total (drop i ms)
  unfolding total
  total-turn = rw (behind, drop-cons ms i 0 h) (mul_comm (total (drop (suc i) ms)) (get_or ms i 0))

  pub sides-turn : (rs : List Side) (size : ℕ) → length rs ≡ length ms → size ≡ total (drop j ms) → drop j rs ≡ sides_with (weights (drop j ms)) (drop j ms)
      → drop i (set rs i (side size (get_or ms i 0))) ≡ sides_with (weights (drop i ms)) (drop i ms)
  unfolding weights sides_with
  sides-turn rs size l q w =
      let r = side size (get_or ms i 0) in
      let inside : i < length (set rs i r) = omega (arith, length-set rs i r) in
      let here = get_or-set_same rs i r r (omega arith) in
      let later = drop-set-lt (suc i) rs i r (omega arith) in
      let rest = later ∙ ap (λ (k : ℕ). drop k rs) (sym (next ∙ add-one i)) ∙ w ∙ ap (λ (l : List ℕ). sides_with (weights l) l) behind in
      rw (drop-cons ms i 0 h, drop-cons (set rs i r) i r inside)
      (ap₂ (λ (x : Side) (l : List Side). x ∷ l) (here ∙ ap (λ (k : ℕ). side k (get_or ms i 0)) (q ∙ ap total behind)) rest)

-- all ceilings are left at first
pub front-all : (ms : List ℕ) → ms ≡ ms ++ drop (length ms) ms
front-all ms = let none : drop (length ms) ms ≡ [] = drop_of_length-le ms {i = length ms} (omega arith) in rw none (sym (append-nil ms))

-- the ceilings that are left, without the last of them
pub front-turn : (ms rest front : List ℕ) (x : ℕ) → ms ≡ rest ++ drop (length rest) ms → rest ≡ push front x
    → (length rest ≡ length front + 1) × (ms ≡ front ++ drop (length front) ms) × (get_or ms (length front) 0 ≡ x) × (length front < length ms)
front-turn ms rest front x e p =
    let behind = drop (length rest) ms in
    let whole : ms ≡ front ++ (x ∷ behind) = e ∙ ap (λ (l : List ℕ). l ++ behind) p ∙ append_snoc front x behind in
    let own = ap (λ (l : List ℕ). drop (length front) l) whole ∙ drop-append_seam front (x ∷ behind) in (
      ap length p ∙ length_push front x,
      whole ∙ ap (λ (l : List ℕ). front ++ l) (sym own),
      ap (λ (l : List ℕ). get_or l (length front) 0) whole ∙ get_or-append_seam front x behind 0,
      omega (arith, ap length whole, length-append front (x ∷ behind)),
    )

-- ---- places from the first ceiling to the last: one ceiling more, all

pub digits-turn : (ws ps : List ℕ) (i n : ℕ) (d : List ℕ) → i < length ws → length ps ≡ length ws → take i ps ++ digits_by (drop i ws) n ≡ d
    → take (i + 1) (set ps i (n / get_or ws i 0)) ++ digits_by (drop (i + 1) ws) (n % get_or ws i 0) ≡ d
unfolding digits_by
digits-turn ws ps i n d h l e =
    rw (add-one i, take-suc-set ps i (n / get_or ws i 0) (omega arith))
    (append_snoc (take i ps) (n / get_or ws i 0) (digits_by (drop (suc i) ws) (n % get_or ws i 0)))
    ∙ rw (drop-cons ws i 0 h) at e

pub digits-end : (ws ps : List ℕ) (i n : ℕ) (d : List ℕ) → length ws ≤ i → length ps ≡ length ws → take i ps ++ digits_by (drop i ws) n ≡ d → ps ≡ d
unfolding digits_by
digits-end ws ps i n d h l e = sym (append-nil ps) ∙ rw (drop_of_length-le ws h, take_all i ps (omega arith)) at e

-- ---- how large they are

pub weights-length : (ms : List ℕ) → length (weights ms) ≡ length ms
unfolding weights
weights-length [] = refl
weights-length (m ∷ ms) = ap suc (weights-length ms)

-- the weight of ceiling i, and the last one
weight-at : (ms : List ℕ) (i : ℕ) → i < length ms → get_or (weights ms) i 0 ≡ total (drop (suc i) ms)
unfolding weights
weight-at [] i h = absurd (omega arith)
weight-at (m ∷ ms) zero h = refl
weight-at (m ∷ ms) (suc i) h = weight-at ms i (omega arith)

pub weight-last : (ms : List ℕ) (i : ℕ) → suc i ≡ length ms → get_or (weights ms) i 0 ≡ 1
weight-last ms i h = weight-at ms i (omega arith) ∙ sym (total-none ms (suc i) (omega arith))

-- where there is a position, none is 0, and none is above their number
factors : (a b : ℕ) → 0 < a * b → (0 < a) × (0 < b)
factors zero b h = absurd (omega arith)
factors (suc a) zero h = absurd (omega arith)
factors (suc a) (suc b) h = (omega arith, omega arith)

rest-within : (ms : List ℕ) → 0 < total ms → (i : ℕ) → (0 < total (drop i ms)) × (total (drop i ms) ≤ total ms)
unfolding total
rest-within ms h zero = (h, omega arith)
rest-within [] h (suc i) = (h, omega arith)
rest-within (m ∷ ms) h (suc i) =
    let both = factors m (total ms) h in
    let rest = rest-within ms both.1 i in
    (rest.0, omega (arith, mul-le-mul_right (total ms) both.0))

module _ (ms : List ℕ) (h : 0 < total ms) where
  pub weights-steps : Steps (weights ms)
  weights-steps =
      record { some = λ i g. let k : i < length ms = omega (arith, weights-length ms) in rw (weight-at ms i k) (rest-within ms h (suc i)).0 }

  pub weights-within : (i : ℕ) → i < length (weights ms) → get_or (weights ms) i 0 ≤ total ms
  weights-within i g = let k : i < length ms = omega (arith, weights-length ms) in rw (weight-at ms i k) (rest-within ms h (suc i)).1

-- of few ceilings with few places none is too large
few-rest : (ms : List ℕ) (b : ℕ) → ((i : ℕ) → i < length ms → get_or ms i 0 ≤ b) → total ms ≤ b ^ length ms
unfolding total
few-rest [] b h = omega (arith, pow-zero b)
few-rest (m ∷ ms) b h =
    let rest = few-rest ms b (λ i g. h (suc i) (omega arith)) in
    rw (pow-suc b (length ms)) (le_trans (mul-le-mul (h 0 (omega arith)) rest) (le_of_eq (mul_comm b (b ^ length ms))))

pub few-products : {ms : List ℕ} → Few ms → (k : ℕ) → total (drop k ms) ≤ links_held ^ ceilings_held
few-products {ms} few k =
    let short = length-drop k ms in
    let fewer : length (drop k ms) ≤ ceilings_held = omega (arith, few.ceilings) in
    le_trans
    (few-rest (drop k ms) links_held (λ i g. rw (get_or-drop k ms i 0) (few.each (k + i) (omega arith))))
    (pow-le-pow_right {n = links_held} (omega arith) fewer)
