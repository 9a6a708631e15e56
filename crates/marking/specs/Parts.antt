-- The values of each ceiling at the front of its part of one array, in which every ceiling has as many places as there are links.
use Rattle.std.specs.Prelude.{Bool, List, ◌++◌, ◌≡◌, ℕ, ◌+◌, ◌-◌, ◌*◌, ◌≤◌, ◌<◌, ℤ, drop, get_or, length, set, take}
use Rattle.std.proofs.Common.{⊎_elim, sym, ap, ap₂, ◌∙◌, eq-or-lt_of_le, mul-le-mul_right, suc-mul, arith, length-append, length-drop, drop_at, drop-drop, get_or-set_other, get_or-set_same, length-take-le, take-add, take-take}
use Rattle.std.proofs.lemmas.List.{take-append-le}
use borrow.Rule.Slice.PartMut.{put_mid}
use Rattle.network.specs.Tabulate.{tabulate}
use Rattle.network.specs.Yard.{ceiling_part, cost_at}
use Rattle.marking.specs.Values.{falling_to}

-- the different values of ceiling i in falling order, by the costs of those of m links that u says
unfoldable pub column_values : (ℕ → Bool) → ℕ → List ℤ → ℕ → List ℤ
column_values u m costs i = falling_to u (cost_at (ceiling_part m costs i)) m

-- the same of each of p ceilings
unfoldable pub ceiling_values : (ℕ → Bool) → ℕ → ℕ → List ℤ → List (List ℤ)
ceiling_values u p m costs = tabulate (column_values u m costs) p

-- the first i ceilings have their values at the front of their parts, and their numbers in `counts`
pub record Filled (u : ℕ → Bool) (m : ℕ) (costs values : List ℤ) (counts : List ℕ) (i : ℕ) : Type 0 where
  pub few : (j : ℕ) → j < i → get_or counts j 0 ≤ m
  pub part : (j : ℕ) → j < i → take (get_or counts j 0) (drop (j * m) values) ≡ column_values u m costs j

pub none_filled : (u : ℕ → Bool) (m : ℕ) (costs values : List ℤ) (counts : List ℕ) → Filled u m costs values counts 0
none_filled u m costs values counts = record { few = λ j h. absurd (omega arith); part = λ j h. absurd (omega arith) }

module _ {A : Type 0} where
  -- a part is the front without what is before it
  pub part-front : (l : List A) (a c : ℕ) → a ≤ length l → take c (drop a l) ≡ drop a (take (a + c) l)
  part-front l a c h = sym (ap (drop a) (take-add a c l) ∙ drop_at (take a l) (take c (drop a l)) a (length-take-le a l h))

  -- of c elements from `at` on, those from the k-th on
  pub part-rest : (l : List A) (at c k : ℕ) → k ≤ c → at + c ≤ length l → take (at + c - (at + k)) (drop (at + k) l) ≡ drop k (take c (drop at l))
  part-rest l at c k h g =
      let width : at + c - (at + k) ≡ c - k = omega arith in
      let all : k + (c - k) ≡ c = omega arith in
      ap₂ (λ (n : ℕ) (r : List A). take n r) width (sym (drop-drop k at l))
      ∙ part-front (drop at l) k (c - k) (omega (arith, length-drop at l)) ∙ ap (λ (n : ℕ). drop k (take n (drop at l))) all

  -- where a part of a list is replaced: a part before it, and the front of the new one
  part-before : (l new : List A) (at n a c : ℕ) → at ≤ length l → a + c ≤ at → take c (drop a (put_mid at n l new)) ≡ take c (drop a l)
  part-before l new at n a c h g =
      let after = new ++ drop n (drop at l) in
      let size = length-take-le at l h in
      part-front (take at l ++ after) a c (omega (arith, length-append (take at l) after))
      ∙ ap (drop a) (take-append-le (a + c) (take at l) after (omega arith) ∙ take-take (a + c) at l g)
      ∙ sym (part-front l a c (omega arith))

  part-new : (l new : List A) (at n c : ℕ) → at ≤ length l → c ≤ length new → take c (drop at (put_mid at n l new)) ≡ take c new
  part-new l new at n c h g =
      ap (take c) (drop_at (take at l) (new ++ drop n (drop at l)) at (length-take-le at l h)) ∙ take-append-le c new (drop n (drop at l)) g

-- the parts of different ceilings lie apart
pub parts-apart : (i j m c : ℕ) → j < i → c ≤ m → j * m + c ≤ i * m
parts-apart i j m c h g = omega (arith, mul-le-mul_right m h, suc-mul j m)

-- one ceiling more, whose part is written anew
filled_more : {u : ℕ → Bool} {m : ℕ} {costs values : List ℤ} {counts : List ℕ} {i : ℕ} → Filled u m costs values counts i → (new : List ℤ) (c n : ℕ)
    → i < length counts → i * m ≤ length values → c ≤ m → c ≤ length new → take c new ≡ column_values u m costs i
    → Filled u m costs (put_mid (i * m) n values new) (set counts i c) (i + 1)
filled_more {u} {m} {costs} {values} {counts} {i} f new c n inside room few fits is =
    record {
      few = λ j h. ⊎_elim (λ (q : j ≡ i). rw q (rw own few)) (λ (q : j < i). rw (other j q) (f.few j q)) (eq-or-lt_of_le (omega arith));
      part = λ j h. ⊎_elim (λ (q : j ≡ i). rw q new-part) (old-part j) (eq-or-lt_of_le (omega arith));
    }
  where
    own : get_or (set counts i c) i 0 ≡ c
    own = get_or-set_same counts i c 0 inside

    other : (j : ℕ) → j < i → get_or (set counts i c) j 0 ≡ get_or counts j 0
    other j q = get_or-set_other counts i j c 0 (omega arith)

    new-part : take (get_or (set counts i c) i 0) (drop (i * m) (put_mid (i * m) n values new)) ≡ column_values u m costs i
    new-part = ap (λ (k : ℕ). take k (drop (i * m) (put_mid (i * m) n values new))) own ∙ part-new values new (i * m) n c room fits ∙ is

    old-part : (j : ℕ) → j < i → take (get_or (set counts i c) j 0) (drop (j * m) (put_mid (i * m) n values new)) ≡ column_values u m costs j
    old-part j q =
        ap (λ (k : ℕ). take k (drop (j * m) (put_mid (i * m) n values new))) (other j q)
        ∙ part-before values new (i * m) n (j * m) (get_or counts j 0) room (parts-apart i j m (get_or counts j 0) q (f.few j q)) ∙ f.part j q

-- the same by code that finds the different values of a column of `width` costs from `at` on
pub filled-turn : {u : ℕ → Bool} {m : ℕ} {costs values : List ℤ} {counts : List ℕ} {i : ℕ} → Filled u m costs values counts i → (at width c : ℕ) (new : List ℤ)
    → at ≡ i * m → width ≡ m → i < length counts → at + m ≤ length costs → at + m ≤ length values → length new ≡ m
    → let column = take width (drop at costs) in
    (c ≤ length column) × (take c new ≡ falling_to u (cost_at column) (length column))
    → Filled u m costs (put_mid at width values new) (set counts i c) (i + 1)
unfolding column_values
filled-turn {u} {m} {costs} {values} {counts} {i} f at width c new e w inside room fits size found =
    let long = length-take-le m (drop (i * m) costs) (omega (arith, length-drop (i * m) costs)) in
    let there : (c ≤ length (ceiling_part m costs i)) × (take c new ≡ falling_to u (cost_at (ceiling_part m costs i)) (length (ceiling_part m costs i))) =
    rw (e, w) at found in
    let few = there.0 in
    rw (e, w)
    (filled_more f new c m inside (omega arith) (omega arith) (omega arith) (there.1 ∙ ap (falling_to u (cost_at (ceiling_part m costs i))) long))
