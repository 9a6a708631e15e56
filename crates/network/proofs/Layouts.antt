-- What holds of the layout of any survey, shown over the table of the layouts that are known.
use Rattle.std.specs.Prelude.{ℕ, ◌+◌, ◌≤◌, ◌<◌, ◌≡◌, refl, Bool, true, false, cond, not, ◌&&◌, List, [], ◌∷◌, eqb, leb, ltb, length, take}
use mathlib.Core.List.Memᴰ.{head as here}
use mathlib.Core.List.Memᴰ.{tail as there}
use Rattle.std.proofs.Common.{arith, leb-true, ltb-true, get_or-take}
use Rattle.std.proofs.lemmas.Bool.{not-true}
use Rattle.std.proofs.Math.ListN.{get_or-eq_default}
use Rattle.order.specs.Lists.{◌∈◌, all}
use Rattle.order.proofs.Lists.{all-mem}
use Rattle.order.specs.Test.{left}
use Rattle.order.proofs.Test.{right}
use Rattle.network.specs.Limits.{max_ceilings}
use Rattle.network.specs.Bytes.{byte_at, mark_at}
use Rattle.network.specs.Survey.{count_at, rest_at, layout_of, layouts, link_size, opens, plain, rest_size, row_where, yard_size}
use Rattle.network.specs.declared.Layout.{Layout}
use Rattle.network.specs.Layouts.{Roomy}

-- the same as a test
abbrev roomy : Layout → Bool
roomy l =
    leb (yard_size l.slots) l.yard.size
    && (ltb (count_at l) l.yard.size
    && (leb (rest_at l + rest_size) l.yard.size && (leb (link_size l.slots) l.link.size && leb l.slots max_ceilings)))

roomy-row : (l : Layout) → roomy l ≡ true → Roomy l
roomy-row l e =
    let first = right (leb (yard_size l.slots) l.yard.size) _ e in
    let second = right (ltb (count_at l) l.yard.size) _ first in
    let third = right (leb (rest_at l + rest_size) l.yard.size) _ second in
    record {
      yard = leb-true _ _ (left (leb (yard_size l.slots) l.yard.size) _ e);
      count = ltb-true _ _ (left (ltb (count_at l) l.yard.size) _ first);
      rest = leb-true _ _ (left (leb (rest_at l + rest_size) l.yard.size) _ second);
      link = leb-true _ _ (left (leb (link_size l.slots) l.link.size) _ third);
      ceilings = leb-true _ _ (right (leb (link_size l.slots) l.link.size) _ third);
    }

-- what holds of the old layout and of each row of a table holds of the row that a test finds
pub row_has : (P : Layout → Type 0) → P plain → (p : Layout → Bool) (ls : List Layout) → ((l : Layout) → l ∈ ls → P l) → P (row_where p ls)
unfolding row_where
row_has P old p [] each = old
row_has P old p (l ∷ ls) each = pick (p l) (each l (here refl)) (row_has P old p ls (λ k m. each k (there m)))
  where
    pick : (b : Bool) → P l → P (row_where p ls) → P (cond b l (row_where p ls))
    pick true x y = x
    pick false x y = y

-- what holds of each layout that is known holds of the layout of a survey
pub layout-has : (P : Layout → Type 0) → ((l : Layout) → l ∈ layouts → P l) → (s : List ℕ) → P (layout_of s)
unfolding layout_of
layout-has P each s = row_has P (each plain (here refl)) (opens s) layouts each

pub layout-roomy : (s : List ℕ) → Roomy (layout_of s)
layout-roomy = layout-has Roomy (λ l m. roomy-row l (all-mem roomy layouts refl l m))

-- ---- the first two bytes

-- the second byte of each mark is not 0
abbrev marked : Layout → Bool
marked l = not (eqb 0 (byte_at l.yard.mark 1))

-- fewer than two bytes have no mark
pub layout-short : (s : List ℕ) → length s < 2 → layout_of s ≡ plain
unfolding layout_of row_where
layout-short s h = go layouts refl
  where
    missed : (a b : Bool) → not b ≡ true → a && b ≡ false
    missed true b e = not-true b e
    missed false b e = refl

    absent : (l : Layout) → marked l ≡ true → mark_at s 0 l.yard.mark ≡ false
    absent l e = rw (get_or-eq_default s 0 {n = 1} (omega arith)) (missed (eqb (byte_at s 0) (byte_at l.yard.mark 0)) _ e)

    go : (ls : List Layout) → all marked ls ≡ true → row_where (opens s) ls ≡ plain
    go [] e = refl
    go (l ∷ ls) e = rw (absent l (left (marked l) _ e)) (go ls (right (marked l) _ e))

-- a survey that is cut off behind its first two bytes or later keeps its layout
pub layout-kept : (s : List ℕ) (c : ℕ) → 2 ≤ c → layout_of (take c s) ≡ layout_of s
unfolding layout_of row_where
layout-kept s c h = go layouts
  where
    go : (ls : List Layout) → row_where (opens (take c s)) ls ≡ row_where (opens s) ls
    go [] = refl
    go (l ∷ ls) = rw (get_or-take c s 0 0 (omega arith), get_or-take c s 1 0 (omega arith), go ls)
