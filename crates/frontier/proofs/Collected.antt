-- All solutions of a problem taken into the frontier one after another, in the order of the tie rule: what is left is the promised list. At no time
-- does the frontier hold more solutions than there are positions.
use Rattle.std.specs.Prelude.{true, false, List, [], ◌∷◌, ◌⊎◌, ◌≡◌, refl, ◌≤◌, length}
use mathlib.Core.List.Memᴰ
use mathlib.Core.List.Memᴰ.{head as here}
use mathlib.Core.List.Memᴰ.{tail as there}
use Rattle.std.proofs.Common.{inl, inr, sym, ap, subst, arith}
use Rattle.std.proofs.Math.Option.{some}
use Rattle.std.proofs.lemmas.Bool.{not-true}
use Rattle.order.specs.Test.{Decided, clash}
use Rattle.order.proofs.Test.{decide, fails}
use Rattle.order.specs.Lists.{◌∈◌, any, first}
use Rattle.order.proofs.Lists.{any_none, mem-any, none_any}
use Rattle.order.specs.Order.{Less}
use Rattle.order.proofs.Order.{equal-refl, equal→≡, less-irrefl}
use Rattle.order.specs.Sorted.{Apart}
use Rattle.order.proofs.Sorted.{rising-unique}
use Rattle.frontier.specs.Dominance.{le_all}
use Rattle.frontier.proofs.Dominance.{le-cases, le-dominates-trans, le_all-cons, le_all-refl, le_all-trans}
use Rattle.frontier.specs.Frontier.{Leftmost, OnGrid, Problem, attains, beats, collect, insert_plan, listed, positions, product, vector, vector_order}
use Rattle.frontier.proofs.Listed.{listed-feasible, listed-first, listed-intro, listed-nondominated, listed-rising}
use Rattle.frontier.specs.Plans.{Front, below}
use Rattle.frontier.proofs.Plans.{collect-below, collect-front, collect-member, collect-old, leftmost-unique}
use Rattle.frontier.proofs.Walk.{positions-length, positions-mem}
use Rattle.order.proofs.Pigeonhole.{apart-few}

module _ {C S : Type 0} (P : Problem C S) where
  open P use {order, solutions, objective, ceilings, values}

  -- a plan's vector is the same as a's or dominates it
  record Covers (a : S) (ps : List S) : Type 0 where
    by : S
    member : by ∈ ps
    covers : below P a by ≡ true

  -- a solution that was taken in is one of the list's, and one that is covered is refused
  in_one : (s : S) (ps : List S) {a : S} → a ∈ insert_plan P s ps → (a ≡ s) ⊎ (a ∈ ps)
  in_one s ps {a} m = go (collect-member P (s ∷ []) ps m)
    where
      go : (a ∈ ps) ⊎ (a ∈ s ∷ []) → (a ≡ s) ⊎ (a ∈ ps)
      go (inl n) = inr n
      go (inr (here e)) = inl e
      go (inr (there n)) = absurd (Memᴰ.not-nil n)

  refused : (s : S) (ps : List S) → Covers s ps → insert_plan P s ps ≡ ps
  refused s ps w = rw (mem-any (below P s) w.member w.covers)

  -- what covers a goes on covering it
  still : (s : S) (ps : List S) {a : S} → Covers a ps → Covers a (insert_plan P s ps)
  still s ps {a} w =
      let v = collect-old P (s ∷ []) ps w.member in
      record { by = v.0; member = v.1; covers = le_all-trans order (vector P v.0) (vector P w.by) (vector P a) v.2 w.covers }

  -- what is covered is taken in no more
  covered-old : (l ps : List S) {a : S} → Covers a ps → a ∈ collect P ps l → a ∈ ps
  covered-old [] ps w m = m
  covered-old (s ∷ l) ps {a} w m =
      let n = covered-old l (insert_plan P s ps) (still s ps w) m in
      go n (in_one s ps n)
    where
      go : a ∈ insert_plan P s ps → (a ≡ s) ⊎ (a ∈ ps) → a ∈ ps
      go n (inl e) = subst (λ (r : List S). a ∈ r) (refused s ps (subst (λ (x : S). Covers x ps) e w)) n
      go n (inr k) = k

  -- what is left was there before, or is the leftmost of its vector
  collect-first : (l ps : List S) {a : S} → a ∈ collect P ps l → (a ∈ ps) ⊎ (first (attains P (vector P a)) l ≡ some a)
  collect-first [] ps m = inl m
  collect-first (s ∷ l) ps {a} m = go (decide (attains P (vector P a) s)) (collect-first l (insert_plan P s ps) m)
    where
      own : attains P (vector P a) a ≡ true
      own = equal-refl (vector_order P) (vector P a)

      old : (a ≡ s) ⊎ (a ∈ ps) → (a ∈ ps) ⊎ (first (attains P (vector P a)) (s ∷ l) ≡ some a)
      old (inl e) = inr (rw (subst (λ (x : S). attains P (vector P a) x ≡ true) e own) (ap some (sym e)))
      old (inr n) = inl n

      later : attains P (vector P a) s ≡ false → (a ∈ insert_plan P s ps) ⊎ (first (attains P (vector P a)) l ≡ some a)
          → (a ∈ ps) ⊎ (first (attains P (vector P a)) (s ∷ l) ≡ some a)
      later k (inl n) = old (in_one s ps n)
      later k (inr e) = inr (rw k e)

      go : Decided (attains P (vector P a) s) → (a ∈ insert_plan P s ps) ⊎ (first (attains P (vector P a)) l ≡ some a)
          → (a ∈ ps) ⊎ (first (attains P (vector P a)) (s ∷ l) ≡ some a)
      go (inl k) r =
          let e = equal→≡ (vector_order P) (vector P s) (vector P a) k in
          let w = collect-below P (s ∷ []) ps (here refl) in
          let c : Covers a (insert_plan P s ps) = record { by = w.0; member = w.1; covers = subst (λ (v : List C). le_all order (vector P w.0) v ≡ true) e w.2 } in
          old (in_one s ps (covered-old l (insert_plan P s ps) c m))
      go (inr k) r = later k r

  no_front : Front P []
  no_front = record { rising = tt; antichain = λ a b m n. absurd (Memᴰ.not-nil m) }

  pub every_front : (l : List S) → Front P (collect P [] l)
  every_front l = collect-front P l [] no_front

  pub every-member : (l : List S) {a : S} → a ∈ collect P [] l → a ∈ l
  every-member l {a} m = go (collect-member P l [] m)
    where
      go : (a ∈ []) ⊎ (a ∈ l) → a ∈ l
      go (inl n) = absurd (Memᴰ.not-nil n)
      go (inr n) = n

  -- THE SECOND WAY: all solutions, one after another, leave the promised list
  pub every-listed : collect P [] solutions ≡ listed P
  every-listed = rising-unique (vector_order P) (vector P) left (listed P) (every_front solutions).rising (listed-rising P) to from
    where
      left : List S
      left = collect P [] solutions

      leftmost : (a : S) → a ∈ left → Leftmost P a
      leftmost a m = go (collect-first solutions [] m)
        where
          go : (a ∈ []) ⊎ Leftmost P a → Leftmost P a
          go (inl n) = absurd (Memᴰ.not-nil n)
          go (inr e) = e

      -- a listed solution covers a, and is covered in turn by one that is left
      to : (a : S) → a ∈ left → a ∈ listed P
      to a m =
          listed-intro P a
          (rw (none_any (λ u. beats P u a) solutions (λ u n. fails (beats P u a) (λ d. never u n d)))) (leftmost a m)
        where
          never : (u : S) → u ∈ solutions → beats P u a ≡ true → ⊥
          never u n d =
              let w = collect-below P solutions [] n in
              clash (le-dominates-trans order (vector P w.0) (vector P u) (vector P a) w.2 d) ((every_front solutions).antichain w.0 a w.1 m)

      from : (a : S) → a ∈ listed P → a ∈ left
      from a m = let w = collect-below P solutions [] (listed-feasible P m) in go w.0 w.1 (le-cases order (vector P w.0) (vector P a) w.2)
        where
          go : (t : S) → t ∈ left → (vector P t ≡ vector P a) ⊎ (beats P t a ≡ true) → a ∈ left
          go t n (inl e) = Memᴰ.cast (sym (leftmost-unique P t a e (leftmost t n) (listed-first P m))) n
          go t n (inr d) = clash d (any_none (λ u. beats P u a) solutions (not-true (any (λ u. beats P u a) solutions) (listed-nondominated P m)) (every-member solutions n))

  -- plans of a frontier have different ceiling costs
  front-apart : (l : List S) → Front P l → Apart ceilings l
  front-apart [] f = tt
  front-apart (x ∷ l) f = (other, front-apart l (record { rising = f.rising.1; antichain = λ a b m n. f.antichain a b (there m) (there n) }))
    where
      same : (y : S) → y ∈ l → vector P x ≡ vector P y → ⊥
      same y m e = less-irrefl (vector_order P) (vector P y) (subst (λ (v : List C). Less (vector_order P) v (vector P y)) e (f.rising.0 y m))

      never : (y : S) → y ∈ l → (a b : S) → a ∈ x ∷ l → b ∈ x ∷ l → (vector P a ≡ vector P b → ⊥) → le_all order (vector P a) (vector P b) ≡ true → ⊥
      never y m a b i j ne h = go (le-cases order (vector P a) (vector P b) h)
        where
          go : (vector P a ≡ vector P b) ⊎ (beats P a b ≡ true) → ⊥
          go (inl e) = ne e
          go (inr d) = clash d (f.antichain a b i j)

      other : (y : S) → y ∈ l → ¬ (ceilings y ≡ ceilings x)
      other y m e = go (decide (order.le (objective x) (objective y)))
        where
          go : Decided (order.le (objective x) (objective y)) → ⊥
          go (inl k) = never y m x y (here refl) (there m) (same y m) (le_all-cons order (objective x) (objective y) (ceilings x) (ceilings y) k (rw e (le_all-refl order (ceilings x))))
          go (inr k) =
              never y m y x (there m) (here refl) (λ q. same y m (sym q))
              (le_all-cons order (objective y) (objective x) (ceilings y) (ceilings x) (order.le_total (objective x) (objective y) k) (rw e (le_all-refl order (ceilings x))))

  -- no more of them than positions
  pub every-few : OnGrid P → (l : List S) → ((s : S) → s ∈ l → s ∈ solutions) → length (collect P [] l) ≤ product values
  every-few grid l h =
      omega (
        arith,
        positions-length values,
        apart-few ceilings (collect P [] l) (positions values) (front-apart (collect P [] l) (every_front l))
            (λ a m. positions-mem (grid a (h a (every-member l m)))),
      )
