-- A list of links gone through one by one: each is to be above the one before, below m, usable, and to join two groups. With t links that is a tree.
use Prim.Native.Nat.{ℕ, ◌+◌, ◌-◌, ◌≤◌, ◌<◌}
use Rattle.std.specs.Prelude.{◌≡◌, Bool, true, false, ◌&&◌, Some, None, leb, ltb, ℤ, drop, get_or, length}
use Rattle.std.proofs.Math.Path.{refl, sym, ap, fun_ext}
use Rattle.std.proofs.Common.{◌∙◌, eq-eqb, ne_eqb, drop_of_length-le, drop-cons}
use Rattle.std.proofs.Math.Bool.{and-false}
use mathlib.Core.List.{List, [], ◌∷◌, map}
use Rattle.std.proofs.Math.Numerals.{add-one}
use Rattle.std.proofs.lemmas.List.{length-map}
use Rattle.order.specs.Test.{by-test}
use Rattle.order.proofs.Test.{test_iff}
use Rattle.order.specs.Lists.{all}
use Rattle.order.proofs.Lists.{all-mem}
use Rattle.order.specs.Sorted.{Apart}
use Rattle.spanning.specs.Labelling.{Edge, crosses}
use Rattle.spanning.specs.LabelList.{label_of}
use Rattle.spanning.specs.Tree.{AllWithin, EndsBelow, Within, identity, is_forest, is_tree}
use Rattle.spanning.proofs.Size.{is_forest-iff, is_tree-iff}
use Rattle.spanning.proofs.Count.{forest-spans}
use Rattle.spanning.specs.Rising.{is_rising_in}
use Rattle.spanning.proofs.Rising.{is_rising_in-iff, rising-range}
use Rattle.spanning.proofs.Best.{edges-within}
use Rattle.spanning.specs.Listing.{is_listed}
use Rattle.forest.specs.Groups.{Led, apart, apart-labels, apart-led, joined-labels}
use Rattle.network.specs.Capacities.{stations_held}
use Rattle.network.proofs.Resting.{joins-within, working-apart}
use Rattle.network.specs.Shaped.{Plannable}
use Rattle.network.specs.Yard.{ends_at, usable_at, working}
use Rattle.network.specs.declared.Shape.{Shape}
use Rattle.stations.specs.Stations.{Stations, plannable-stations}
use Rattle.trees_drawn.specs.Drawing.{drawing, drawing-led, drawing-none, drawing-some, keeps, with_link}
use Rattle.trees_drawn.specs.declared.drawing.Drawn.{Drawn}

-- ---- definitions

-- whether each of the links ts keeps to the rules, after the links so far and those before it
unfoldable pub draws_from : ℕ → List ℕ → ℕ → Drawn → List ℕ → Bool
draws_from rest ends m d [] = true
draws_from rest ends m d (c ∷ ts) = keeps rest ends m d c && draws_from rest ends m (with_link ends d c) ts

-- no link yet
abbrev pub blank : Drawn
blank = record { groups = apart; low = 0 }

-- whether the links rise below m, and each is usable and joins two groups
unfoldable pub draws_forest : ℕ → List ℕ → ℕ → List ℕ → Bool
draws_forest rest ends m ts = draws_from rest ends m blank ts

-- ---- the loop: what is left to draw

module _ (rest : ℕ) (ends : List ℕ) (m : ℕ) where
  -- the next link keeps to the rules
  pub draws-turn : (l : List ℕ) (i : ℕ) (d : Drawn) {r : Drawn} {w : Bool} → draws_from rest ends m d (drop i l) ≡ w
      → Some r ≡ drawing rest ends m d (get_or l i 0) → i < length l → draws_from rest ends m r (drop (i + 1) l) ≡ w
  unfolding draws_from
  draws-turn l i d e q h =
      let k = drawing-some rest ends m d (get_or l i 0) q in
      rw (k.1, add-one) (rw (drop-cons l i 0 h, k.0) at e)

  -- or it breaks one
  pub draws-fault : (l : List ℕ) (i : ℕ) (d : Drawn) {w : Bool} → draws_from rest ends m d (drop i l) ≡ w
      → None ≡ drawing rest ends m d (get_or l i 0) → i < length l → false ≡ w
  unfolding draws_from
  draws-fault l i d e q h = rw (drop-cons l i 0 h, drawing-none rest ends m d (get_or l i 0) q) at e

  -- all links are gone through
  pub draws-end : (l : List ℕ) (i : ℕ) (d : Drawn) {w : Bool} → draws_from rest ends m d (drop i l) ≡ w → length l ≤ i → true ≡ w
  unfolding draws_from
  draws-end l i d e h = rw (drop_of_length-le l h) at e

  -- ---- what it means

  module _ (within : (c : ℕ) → EndsBelow stations_held (ends_at ends c)) where
    draws-from : (d : Drawn) (ts : List ℕ) → Led d.groups → draws_from rest ends m d ts
        ≡ is_rising_in d.low m ts && (all (usable_at rest ends) ts && is_forest (label_of d.groups.leader) (map (ends_at ends) ts))
    unfolding draws_from with_link is_forest
    draws-from d [] led = refl
    draws-from d (c ∷ ts) led =
        let L = label_of d.groups.leader in
        by-test (leb d.low c)
        (λ low. by-test (ltb c m)
        (λ known. by-test (usable_at rest ends c)
        (λ used. by-test (crosses L (ends_at ends c))
        (λ cross.
        let w = within c in
        rw (low, known, used, cross)
        (draws-from (with_link ends d c) ts (drawing-led ends d c w led)
        ∙ rw (add-one, joined-labels d.groups _ _ led w.0 w.1)))
        (λ cross. rw (low, known, used, cross, and-false, and-false)))
        (λ used. rw (low, known, used, and-false)))
        (λ known. rw (low, known)))
        (λ low. rw low)

    draws-forest : (ts : List ℕ)
        → draws_forest rest ends m ts ≡ is_rising_in 0 m ts && (all (usable_at rest ends) ts && is_forest identity (map (ends_at ends) ts))
    unfolding draws_forest
    draws-forest ts =
        draws-from blank ts apart-led
        ∙ ap (λ (L : ℕ → ℕ). is_rising_in 0 m ts && (all (usable_at rest ends) ts && is_forest L (map (ends_at ends) ts))) (fun_ext apart-labels)

-- as many rising usable links as a tree has are a tree where they have no ring
module _ (ends : ℕ → Edge) (vs : List ℕ) (m : ℕ) (usable : ℕ → Bool) (some : 0 < length vs) (distinct : Apart (λ x. x) vs)
    (within : (c : ℕ) → c < m → usable c ≡ true → Within vs (ends c)) where
  -- links that rise below m and are usable join stations
  all-within : (ts : List ℕ) → is_rising_in 0 m ts ≡ true → all usable ts ≡ true → AllWithin vs (map ends ts)
  all-within ts e u =
      edges-within ends vs m usable some distinct within ts
      (λ t k. ((rising-range 0 m ts ((is_rising_in-iff 0 m ts).0 e) t k).1, all-mem usable ts u t k))

  listed-forest : (ts : List ℕ) → length ts ≡ length vs - 1
      → is_listed ends vs m usable ts ≡ is_rising_in 0 m ts && (all usable ts && is_forest identity (map ends ts))
  unfolding is_listed
  listed-forest ts size =
      rw (eq-eqb (length ts) (length vs - 1) size) (by-test (is_rising_in 0 m ts)
      (λ e. by-test (all usable ts)
      (λ u. rw (e, u) (test_iff (is_tree vs (map ends ts)) (is_forest identity (map ends ts)) (
        λ t. (is_forest-iff identity (map ends ts)).1 ((is_tree-iff vs (map ends ts)).0 t).forest,
        λ f.
            let ringless = (is_forest-iff identity (map ends ts)).0 f in
            (is_tree-iff vs (map ends ts)).1
            (forest-spans vs some distinct (map ends ts) (all-within ts e u) ringless (length-map ts ends ∙ size)),
      )))
      (λ u. rw (e, u)))
      (λ e. rw e))

-- ---- of a shape and its ends

-- links between stations, of which trees have t
pub record Drawable (shape : Shape) (ends : List ℕ) : Type 0 where
  pub some-station : 1 ≤ length (working shape.n shape.rest)
  pub tree : shape.t ≡ length (working shape.n shape.rest) - 1
  pub within : (c : ℕ) → c < shape.m → EndsBelow shape.n (ends_at ends c)
  pub stations : Stations ends

-- those of a network that can be planned
pub drawable : {shape : Shape} {ends sums : List ℕ} {costs : List ℤ} → Plannable shape ends sums costs → Drawable shape ends
drawable can =
    record {
      some-station = can.fine.some-station;
      tree = can.tree;
      within = λ c h. (can.fine.first-end c h, can.fine.second-end c h);
      stations = plannable-stations can;
    }

module _ (shape : Shape) (ends : List ℕ) (can : Drawable shape ends) (ts : List ℕ) where
  -- the working stations
  abbrev vs : List ℕ
  vs = working shape.n shape.rest

  pub tree-drawn : length ts ≡ shape.t → draws_forest shape.rest ends shape.m ts ≡ is_listed (ends_at ends) vs shape.m (usable_at shape.rest ends) ts
  tree-drawn size =
      draws-forest shape.rest ends shape.m can.stations.within ts
      ∙ sym (listed-forest (ends_at ends) vs shape.m (usable_at shape.rest ends) can.some-station (working-apart shape.n shape.rest)
      (λ c h u. let w = can.within c h in joins-within shape.n shape.rest (ends_at ends c) w.0 w.1 u) ts (size ∙ can.tree))

  pub size-drawn : (length ts ≡ shape.t → ⊥) → false ≡ is_listed (ends_at ends) vs shape.m (usable_at shape.rest ends) ts
  unfolding is_listed
  size-drawn h = rw (ne_eqb (length ts) (length vs - 1) (λ e. h (e ∙ sym can.tree)))
