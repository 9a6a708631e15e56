-- What the code finds at a position by its places, in an array with room for m values of each ceiling: its bounds, and the sides of boxes from it.
use Rattle.std.specs.Prelude.{List, ◌≡◌, ℕ, ◌+◌, ◌*◌, ◌-◌, ◌≤◌, ◌<◌, ℤ, pos, drop, get_or, length, set, take}
use Rattle.std.proofs.Common.{sym, ap, ◌∙◌, subst, arith, drop-drop, drop-set-lt, get_or-drop}
use Rattle.network.specs.Tabulate.{tabulate}
use Rattle.network.proofs.Tabulate.{tabulate-turn}
use Rattle.marking.specs.Place.{place_in}
use Rattle.marking.specs.Paint.{side}
use Rattle.marking.specs.Sides.{no_side}
use Rattle.marking.specs.declared.mark.Side.{Side}

-- the value at the place in ceiling i, and at each place
abbrev pub bound_at : ℕ → List ℤ → List ℕ → ℕ → ℤ
bound_at m values places i = get_or values (i * m + get_or places i 0) (pos 0)

unfoldable pub bounds_at : ℕ → List ℤ → List ℕ → List ℤ
bounds_at m values places = tabulate (bound_at m values places) (length places)

-- the side from the place in ceiling i to the last one, and each side
abbrev pub last_side : List Side → List ℕ → ℕ → Side
last_side rs places i = let r = get_or rs i no_side in side r.stride (r.count - get_or places i 0)

unfoldable pub last_sides : List Side → List ℕ → List Side
last_sides rs places = tabulate (last_side rs places) (length rs)

-- the side from the place in ceiling i through that of its cost in y, and each side
abbrev pub own_side : ℕ → List ℤ → List Side → List ℕ → List ℤ → ℕ → Side
own_side m values rs places y i =
    let r = get_or rs i no_side in
    side r.stride (place_in (get_or y i (pos 0)) (drop (get_or places i 0) (take r.count (drop (i * m) values))) + 1)

unfoldable pub own_sides : ℕ → List ℤ → List Side → List ℕ → List ℤ → List Side
own_sides m values rs places y = tabulate (own_side m values rs places y) (length rs)

-- places that the array has room for
pub record Within (m : ℕ) (values : List ℤ) (places : List ℕ) : Type 0 where
  pub room : length places * m ≤ length values
  pub low : (i : ℕ) → i < length places → get_or places i 0 < m

-- a place in each side
pub record Placed (rs : List Side) (places : List ℕ) : Type 0 where
  pub alike : length places ≡ length rs
  pub low : (i : ℕ) → i < length rs → get_or places i 0 < (get_or rs i no_side).count

-- sides whose values the array has room for
pub record Parted (m : ℕ) (values : List ℤ) (rs : List Side) : Type 0 where
  pub room : length rs * m ≤ length values
  pub few : (i : ℕ) → i < length rs → (get_or rs i no_side).count ≤ m

-- ---- for code that writes the sides one after another over those of the box of all positions

-- the next one is still as it was
pub unwritten : (now rs : List Side) (i : ℕ) → drop i now ≡ drop i rs → get_or now i no_side ≡ get_or rs i no_side
unwritten now rs i e =
    let at : i + 0 ≡ i = omega arith in
    subst (λ (k : ℕ). get_or now k no_side ≡ get_or rs k no_side) at
    (sym (get_or-drop i now 0 no_side) ∙ ap (λ (l : List Side). get_or l 0 no_side) e ∙ get_or-drop i rs 0 no_side)

-- a turn
pub side-turn : (f : ℕ → Side) (now rs : List Side) (i : ℕ) {r : Side} → i < length now → take i now ≡ tabulate f i → drop i now ≡ drop i rs → r ≡ f i
    → (take (i + 1) (set now i r) ≡ tabulate f (i + 1)) × (drop (i + 1) (set now i r) ≡ drop (i + 1) rs)
side-turn f now rs i {r} h e d q = (
  tabulate-turn f now i r h e q,
  drop-set-lt (i + 1) now i r (omega arith) ∙ sym (drop-drop 1 i now) ∙ ap (drop 1) d ∙ drop-drop 1 i rs,
)
