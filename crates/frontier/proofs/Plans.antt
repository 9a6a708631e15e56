-- THE THEOREM: what the algorithm returns is the promised list.
use Rattle.std.specs.Prelude.{Bool, true, false, not, List, [], ◌∷◌, ◌++◌, ◌⊎◌, ◌≡◌, refl, suc, ◌+◌, ◌≤◌, length}
use mathlib.Core.List.Memᴰ
use mathlib.Core.List.Memᴰ.{head as here}
use mathlib.Core.List.Memᴰ.{tail as there}
use Rattle.std.proofs.Common.{inl, inr, sym, ap, ◌∙◌, subst, arith}
use Rattle.std.proofs.Math.Option.{some-injective}
use Rattle.std.proofs.Math.Path.{subst⁻¹}
use Rattle.std.proofs.lemmas.Bool.{not-true}
use Rattle.order.specs.Test.{Decided, clash}
use Rattle.order.proofs.Test.{decide, fails, refute}
use Rattle.order.specs.Lists.{◌∈◌, any, filter, first}
use Rattle.order.proofs.Lists.{any-mem, any_none, count-le-length, filter-mem, length-filter, map_some-few, mem-filter}
use Rattle.order.proofs.Perm.{pairwise-filter, perm-length}
use Rattle.order.specs.Order.{Less}
use Rattle.order.specs.Sorted.{insert}
use Rattle.order.proofs.Sorted.{insert-here, insert-mem, insert-perm, insert-rising, insert-there, rising-unique}
use Rattle.frontier.specs.Dominance.{le_all}
use Rattle.frontier.proofs.Dominance.{dominates-irrefl, dominates→le, le-cases, le-dominates-trans, le_all-refl, le_all-trans}
use Rattle.frontier.specs.Frontier.{Leftmost, OnGrid, Problem, attains, beats, collect, found, insert_plan, listed, plans, solved, vector, vector_order}
use Rattle.frontier.proofs.Found.{complete, found-feasible, found_first, sound}
use Rattle.frontier.proofs.Listed.{listed-feasible, listed-first, listed-intro, listed-nondominated, listed-rising}
use Rattle.frontier.specs.Plans.{Front, below}

module _ {C S : Type 0} (P : Problem C S) where
  open P use {order, solutions}

  -- q stays among the plans when s is taken in: s's vector does not dominate its vector
  abbrev stays : S → S → Bool
  stays s q = not (beats P s q)

  -- one more solution: it is refused, or taken into the plans that it does not dominate
  data Taken (s : S) (l : List S) : List S → Type 0 where
    refused : any (below P s) l ≡ true → Taken s l l
    taken : any (below P s) l ≡ false → Taken s l (insert (vector_order P) (vector P) s (filter (stays s) l))

  -- a solution that a plan equals or dominates leaves the plans as they are
  insert-refused : (s : S) (l : List S) → any (below P s) l ≡ true → insert_plan P s l ≡ l
  insert-refused s l k = rw k

  take : (s : S) (l : List S) → Taken s l (insert_plan P s l)
  take s l = elim (decide (any (below P s) l)) [ inl k ↦ rw (insert-refused s l k) (refused k) | inr k ↦ rw k (taken k) ]

  take-member : {s : S} {l r : List S} → Taken s l r → (a : S) → a ∈ r → (a ≡ s) ⊎ (a ∈ l)
  take-member (refused k) a m = inr m
  take-member {s} {l} (taken k) a m = go (insert-mem (vector_order P) (vector P) s (filter (stays s) l) m)
    where
      go : (a ≡ s) ⊎ (a ∈ filter (stays s) l) → (a ≡ s) ⊎ (a ∈ l)
      go (inl e) = inl e
      go (inr n) = inr (filter-mem (stays s) l n).0

  take-new : {s : S} {l r : List S} → Taken s l r → (t : S) × (t ∈ r) × (below P s t ≡ true)
  take-new {s} {l} (refused k) = any-mem (below P s) l k
  take-new {s} {l} (taken k) = (s, insert-here (vector_order P) (vector P) s (filter (stays s) l), le_all-refl order (vector P s))

  take-old : {s : S} {l r : List S} → Taken s l r → {a : S} → a ∈ l → (t : S) × (t ∈ r) × (below P a t ≡ true)
  take-old {s} {l} (refused k) {a} m = (a, m, le_all-refl order (vector P a))
  take-old {s} {l} (taken k) {a} m = go (decide (beats P s a))
    where
      go : Decided (beats P s a) → (t : S) × (t ∈ insert (vector_order P) (vector P) s (filter (stays s) l)) × (below P a t ≡ true)
      go (inl d) = (s, insert-here (vector_order P) (vector P) s (filter (stays s) l), dominates→le order (vector P s) (vector P a) d)
      go (inr d) = (a, insert-there (vector_order P) (vector P) s (mem-filter (stays s) m (rw d)), le_all-refl order (vector P a))

  take-front : {s : S} {l r : List S} → Taken s l r → Front P l → Front P r
  take-front {s} {l} (refused k) f = f
  take-front {s} {l} (taken k) f =
      record {
        rising = insert-rising (vector_order P) (vector P) s rest new
            (pairwise-filter (stays s) (λ s t. Less (vector_order P) (vector P s) (vector P t)) l f.rising);
        antichain = λ a b m n. apart a b (insert-mem (vector_order P) (vector P) s rest m) (insert-mem (vector_order P) (vector P) s rest n);
      }
    where
      rest : List S
      rest = filter (stays s) l

      -- no plan that stays is the same or dominates
      above : (y : S) → y ∈ rest → below P s y ≡ false
      above y m = any_none (below P s) l k (filter-mem (stays s) l m).0

      new : (y : S) → y ∈ rest → ¬ (vector P y ≡ vector P s)
      new y m e = clash (subst⁻¹ (λ (u : List C). le_all order u (vector P s) ≡ true) e (le_all-refl order (vector P s))) (above y m)

      apart : (a b : S) → (a ≡ s) ⊎ (a ∈ rest) → (b ≡ s) ⊎ (b ∈ rest) → beats P a b ≡ false
      apart a b (inl e) (inl h) = subst⁻¹ (λ (x : S). beats P a x ≡ false) (h ∙ sym e) (dominates-irrefl order (vector P a))
      apart a b (inl e) (inr n) = subst⁻¹ (λ (x : S). beats P x b ≡ false) e (not-true (beats P s b) (filter-mem (stays s) l n).1)
      apart a b (inr m) (inl h) =
          subst⁻¹ (λ (x : S). beats P a x ≡ false) h (refute (beats P a s) (below P s a) (λ d. dominates→le order (vector P a) (vector P s) d) (above a m))
      apart a b (inr m) (inr n) = f.antichain a b (filter-mem (stays s) l m).0 (filter-mem (stays s) l n).0

  -- all solutions of a list, one after another
  pub collect-front : (l ps : List S) → Front P ps → Front P (collect P ps l)
  collect-front [] ps f = f
  collect-front (s ∷ l) ps f = collect-front l (insert_plan P s ps) (take-front (take s ps) f)

  pub collect-member : (l ps : List S) {a : S} → a ∈ collect P ps l → (a ∈ ps) ⊎ (a ∈ l)
  collect-member [] ps m = inl m
  collect-member (s ∷ l) ps {a} m = go (collect-member l (insert_plan P s ps) m)
    where
      old : (a ≡ s) ⊎ (a ∈ ps) → (a ∈ ps) ⊎ (a ∈ s ∷ l)
      old (inl e) = inr (here e)
      old (inr n) = inl n

      go : (a ∈ insert_plan P s ps) ⊎ (a ∈ l) → (a ∈ ps) ⊎ (a ∈ s ∷ l)
      go (inl n) = old (take-member (take s ps) a n)
      go (inr n) = inr (there n)

  pub collect-old : (l ps : List S) {a : S} → a ∈ ps → (t : S) × (t ∈ collect P ps l) × (below P a t ≡ true)
  collect-old [] ps {a} m = (a, m, le_all-refl order (vector P a))
  collect-old (s ∷ l) ps {a} m =
      let w = take-old (take s ps) m in
      let v = collect-old l (insert_plan P s ps) w.1 in
      (v.0, v.1, le_all-trans order (vector P v.0) (vector P w.0) (vector P a) v.2 w.2)

  pub collect-below : (l ps : List S) {a : S} → a ∈ l → (t : S) × (t ∈ collect P ps l) × (below P a t ≡ true)
  collect-below [] ps {a = a} x' = elim x' [ ]
  collect-below (s ∷ l) ps {a} (here e) =
      let w = take-new (take s ps) in
      let v = collect-old l (insert_plan P s ps) w.1 in
      (v.0, v.1, subst⁻¹ (λ (x : S). below P x v.0 ≡ true) e (le_all-trans order (vector P v.0) (vector P w.0) (vector P s) v.2 w.2))
  collect-below (s ∷ l) ps {a} (there m) = collect-below l (insert_plan P s ps) m

  plans-front : Front P (plans P)
  plans-front = collect-front (found P) [] (record { rising = tt; antichain = λ a b m n. absurd (Memᴰ.not-nil m) })

  plans-found : {a : S} → a ∈ plans P → a ∈ found P
  plans-found {a} m = go (collect-member (found P) [] m)
    where
      go : (a ∈ []) ⊎ (a ∈ found P) → a ∈ found P
      go (inl n) = absurd (Memᴰ.not-nil n)
      go (inr n) = n

  -- two leftmost solutions with one vector are one
  pub leftmost-unique : (a b : S) → vector P a ≡ vector P b → Leftmost P a → Leftmost P b → a ≡ b
  leftmost-unique a b e h k = some-injective a b (sym h ∙ ap (λ (v : List C). first (attains P v) solutions) e ∙ k)

  -- the plans are the promised list
  pub plans-listed : OnGrid P → plans P ≡ listed P
  plans-listed grid = rising-unique (vector_order P) (vector P) (plans P) (listed P) plans-front.rising (listed-rising P) to from
    where
      to : (a : S) → a ∈ plans P → a ∈ listed P
      to a m = listed-intro P a (sound P grid a (λ t n. fails (beats P t a) (λ d. never t n d))) (found_first P (plans-found m))
        where
          never : (t : S) → t ∈ found P → beats P t a ≡ true → ⊥
          never t n d =
              let w = collect-below (found P) [] n in
              clash (le-dominates-trans order (vector P w.0) (vector P t) (vector P a) w.2 d) (plans-front.antichain w.0 a w.1 m)

      from : (a : S) → a ∈ listed P → a ∈ plans P
      from a m =
          let c = complete P grid (listed-feasible P m) (listed-nondominated P m) in
          let w = collect-below (found P) [] c.1 in
          go w.0 w.1 (le-cases order (vector P w.0) (vector P a) (subst (λ (u : List C). le_all order (vector P w.0) u ≡ true) c.2 w.2))
        where
          go : (t : S) → t ∈ plans P → (vector P t ≡ vector P a) ⊎ (beats P t a ≡ true) → a ∈ plans P
          go t n (inl e) = Memᴰ.cast (sym (leftmost-unique t a e (found_first P (plans-found n)) (listed-first P m))) n
          go t n (inr d) =
              let none-beats = not-true (any (λ u. beats P u a) solutions) (listed-nondominated P m) in
              clash d (any_none (λ u. beats P u a) solutions none-beats (found-feasible P (plans-found n)))

  -- for code that takes each solution in as it is found
  pub collect-append : (l m ps : List S) → collect P ps (l ++ m) ≡ collect P (collect P ps l) m
  collect-append [] m ps = refl
  collect-append (s ∷ l) m ps = collect-append l m (insert_plan P s ps)

  -- no more plans than positions solved
  take-few : {s : S} {l r : List S} → Taken s l r → length r ≤ suc (length l)
  take-few (refused k) = omega arith
  take-few {s} {l} (taken k) =
      omega (arith, perm-length (insert-perm (vector_order P) (vector P) s (filter (stays s) l)), length-filter (stays s) l, count-le-length (stays s) l)

  collect-few : (l ps : List S) → length (collect P ps l) ≤ length ps + length l
  collect-few [] ps = omega arith
  collect-few (s ∷ l) ps = omega (arith, collect-few l (insert_plan P s ps), take-few (take s ps))

  pub plans-few : length (plans P) ≤ length (solved P)
  plans-few = omega (arith, collect-few (found P) [], map_some-few (λ e. e.answer) (solved P))
