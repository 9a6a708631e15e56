-- The walk: an answer holds at every position that its entry covers, every position is covered, and how many are solved.
use Rattle.std.specs.Prelude.{true, List, [], ◌∷◌, map, ◌⊎◌, ◌≡◌, refl, suc, ◌+◌, ◌*◌, ◌≤◌, length}
use mathlib.Core.List.Memᴰ
use mathlib.Core.List.Memᴰ.{head as here}
use mathlib.Core.List.Memᴰ.{tail as there}
use Rattle.std.proofs.Common.{inl, inr, sym, ap, ◌∙◌, arith, length-append}
use Rattle.std.proofs.Math.Option.{Option, none, some}
use Rattle.std.proofs.lemmas.List.{length-map}
use Rattle.order.specs.Test.{Decided, left}
use Rattle.order.proofs.Test.{both, decide, right}
use Rattle.order.specs.Lists.{◌∈◌}
use Rattle.order.proofs.Lists.{any-mem}
use Rattle.frontier.specs.Dominance.{le_all}
use Rattle.frontier.proofs.Dominance.{le_all-refl}
use Rattle.frontier.specs.Frontier.{Entry, Problem, best, covered, covers, settles, solve, solved, visit, walk}
use Rattle.frontier.specs.Frontier.{Picks, picks-cons, picks-nil, positions, prefix_each, product}
use Rattle.frontier.proofs.Best.{best-below, best-some, none_below}
use Rattle.frontier.specs.Walk.{Covered}

module _ {C S : Type 0} (P : Problem C S) where
  open P use {order, ceilings, values}

  -- the answer at b holds at what it settles
  pub settles-best : (b c : List C) → settles P b (best P b) c ≡ true → best P b ≡ best P c
  settles-best b c h = go (best P b) refl h
    where
      go : (o : Option S) → best P b ≡ o → settles P b o c ≡ true → best P b ≡ best P c
      go none e k = e ∙ sym (none_below P b c e k)
      go (some s) e k =
          let lo : le_all order (ceilings s) c ≡ true = left (le_all order (ceilings s) c) (le_all order c b) k in
          let hi : le_all order c b ≡ true = right (le_all order (ceilings s) c) (le_all order c b) k in
          e ∙ sym (best-below P b c s e hi lo)

  -- a position is settled by its own answer
  pub settles-itself : (b : List C) → settles P b (best P b) b ≡ true
  settles-itself b = go (best P b) refl
    where
      go : (o : Option S) → best P b ≡ o → settles P b o b ≡ true
      go none e = le_all-refl order b
      go (some s) e = both (best-some P b s e).passes (le_all-refl order b)

  -- what is solved stays solved
  pub visit-keeps : (es : List (Entry C S)) (b : List C) {e : Entry C S} → e ∈ es → e ∈ visit P es b
  visit-keeps es b {e} m = elim (decide (covered P es b)) [ inl k ↦ rw k m | inr k ↦ rw k (Memᴰ.append_left (solve P b ∷ []) m) ]

  pub walk-keeps : (bs : List (List C)) (es : List (Entry C S)) {e : Entry C S} → e ∈ es → e ∈ walk P bs es
  walk-keeps [] es m = m
  walk-keeps (b ∷ bs) es m = walk-keeps bs (visit P es b) (visit-keeps es b m)

  -- every new entry is a position of the walk with its best solution
  visit-member : (es : List (Entry C S)) (b : List C) {e : Entry C S} → e ∈ visit P es b → (e ∈ es) ⊎ (e ≡ solve P b)
  visit-member es b {e} m = go (decide (covered P es b))
    where
      new : (e ∈ es) ⊎ (e ∈ solve P b ∷ []) → (e ∈ es) ⊎ (e ≡ solve P b)
      new (inl n) = inl n
      new (inr n) = inr (Memᴰ.eq_of_singleton n)

      go : Decided (covered P es b) → (e ∈ es) ⊎ (e ≡ solve P b)
      go (inl k) = inl (rw k at m)
      go (inr k) = new (Memᴰ.append_cases es (rw k at m))

  pub walk-member : (bs : List (List C)) (es : List (Entry C S)) {e : Entry C S} → e ∈ walk P bs es
      → (e ∈ es) ⊎ ((b : List C) × (b ∈ bs) × (e ≡ solve P b))
  walk-member [] es m = inl m
  walk-member (b ∷ bs) es {e} m = go (walk-member bs (visit P es b) m)
    where
      first : (e ∈ es) ⊎ (e ≡ solve P b) → (e ∈ es) ⊎ ((c : List C) × (c ∈ b ∷ bs) × (e ≡ solve P c))
      first (inl n) = inl n
      first (inr q) = inr (b, here refl, q)

      go : (e ∈ visit P es b) ⊎ ((c : List C) × (c ∈ bs) × (e ≡ solve P c)) → (e ∈ es) ⊎ ((c : List C) × (c ∈ b ∷ bs) × (e ≡ solve P c))
      go (inl n) = first (visit-member es b n)
      go (inr w) = inr (w.0, there w.1, w.2)

  -- every position of the walk is covered by an entry
  visit-covers : (es : List (Entry C S)) (b : List C) → (e : Entry C S) × (e ∈ visit P es b) × (covers P e b ≡ true)
  visit-covers es b = go (decide (covered P es b))
    where
      go : Decided (covered P es b) → (e : Entry C S) × (e ∈ visit P es b) × (covers P e b ≡ true)
      go (inl k) = let w = any-mem (λ e. covers P e b) es k in (w.0, visit-keeps es b w.1, w.2)
      go (inr k) = (solve P b, rw k (Memᴰ.append_right es (here refl)), settles-itself b)

  pub walk-covers : (bs : List (List C)) (es : List (Entry C S)) {b : List C} → b ∈ bs → (e : Entry C S) × (e ∈ walk P bs es) × (covers P e b ≡ true)
  walk-covers [] es {b = b} x' = elim x' [ ]
  walk-covers (c ∷ bs) es {b} (here q) = let w = visit-covers es c in (w.0, walk-keeps bs (visit P es c) w.1, rw q w.2)
  walk-covers (c ∷ bs) es {b} (there m) = walk-covers bs (visit P es c) m

  pub solved-covers : {b : List C} → b ∈ positions values → Covered P (solved P) b
  solved-covers {b} m =
      let w = walk-covers (positions values) [] m in
      record { entry = w.0; member = w.1; covering = w.2; is-best = go w.0 w.2 (walk-member (positions values) [] w.1) }
    where
      go : (e : Entry C S) → covers P e b ≡ true → (e ∈ []) ⊎ ((c : List C) × (c ∈ positions values) × (e ≡ solve P c)) → e.answer ≡ best P b
      go e k (inl n) = absurd (Memᴰ.not-nil n)
      go e k (inr (c, n, q)) = ap (λ (x : Entry C S). x.answer) q ∙ settles-best c b (rw q at k)

  -- how many positions are solved
  visit-length : (es : List (Entry C S)) (b : List C) → length (visit P es b) ≤ suc (length es)
  visit-length es b = elim (decide (covered P es b)) [ inl k ↦ rw k (omega arith) | inr k ↦ rw k (simp length-append (omega arith)) ]

  pub walk-length : (bs : List (List C)) (es : List (Entry C S)) → length (walk P bs es) ≤ length bs + length es
  walk-length [] es = omega arith
  walk-length (b ∷ bs) es = omega (arith, walk-length bs (visit P es b), visit-length es b)

  visit-grows : (es : List (Entry C S)) (b : List C) → length es ≤ length (visit P es b)
  visit-grows es b = elim (decide (covered P es b)) [ inl k ↦ rw k (omega arith) | inr k ↦ rw k (simp length-append (omega arith)) ]

  pub walk-grows : (bs : List (List C)) (es : List (Entry C S)) → length es ≤ length (walk P bs es)
  walk-grows [] es = omega arith
  walk-grows (b ∷ bs) es = omega (arith, walk-grows bs (visit P es b), visit-grows es b)

  pub solved-length : length (solved P) ≤ length (positions values)
  solved-length = omega (arith, walk-length (positions values) [])

-- the positions are all picks, and as many as the product of the numbers of values
module _ {C : Type 0} where
  prefix_each-mem : {x : C} {l : List C} {q : List C} {qs : List (List C)} → x ∈ l → q ∈ qs → (x ∷ q) ∈ prefix_each l qs
  prefix_each-mem {x = x} {q = q} {qs = qs} (here {x = y} {xs = l} e) m =
      Memᴰ.append_left (prefix_each l qs) (Memᴰ.cast (ap (λ (z : C). z ∷ q) e) (Memᴰ.map (λ (v : List C). y ∷ v) m))
  prefix_each-mem {qs = qs} (there {x = y} {xs = l} n) m = Memᴰ.append_right (map (λ (v : List C). y ∷ v) qs) (prefix_each-mem n m)

  pub positions-mem : {v : List C} {ls : List (List C)} → Picks v ls → v ∈ positions ls
  positions-mem picks-nil = here refl
  positions-mem (picks-cons m p) = prefix_each-mem m (positions-mem p)

  prefix_each-length : (l : List C) (qs : List (List C)) → length (prefix_each l qs) ≡ length l * length qs
  prefix_each-length [] qs = omega arith
  prefix_each-length (x ∷ l) qs = simp (length-append, length-map) (omega (arith, prefix_each-length l qs))

  pub positions-length : (ls : List (List C)) → length (positions ls) ≡ product ls
  positions-length [] = refl
  positions-length (l ∷ ls) = prefix_each-length l (positions ls) ∙ ap (λ n. length l * n) (positions-length ls)
