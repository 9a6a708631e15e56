-- The entries of the walk when the first n positions have been visited, and the plans that they leave.
use Rattle.std.specs.Prelude.{true, false, ◌⊎◌, ◌≡◌, ℕ, ◌+◌, ◌≤◌, ◌<◌, get_or}
use mathlib.Core.List.Memᴰ
use mathlib.Core.List.{List, [], ◌∷◌, ◌++◌}
use Rattle.std.proofs.Common.{inl, inr, ◌∙◌, add-one, arith, length-append, take-append-drop, take_all}
use Rattle.std.proofs.Math.Option.{Option, none, some}
use Rattle.std.proofs.Math.Path.{refl, sym, ap}
use Rattle.std.proofs.Math.ListN.{drop, length, take}
use Rattle.std.proofs.Math.Seq.{take-suc}
use Rattle.order.specs.Lists.{◌∈◌, prepend}
use Rattle.order.proofs.Lists.{map_some-append, map_some-mem}
use Rattle.frontier.proofs.Best.{best-some}
use Rattle.frontier.specs.Dominance.{le_all}
use Rattle.frontier.proofs.Dominance.{le_all-tail, le_all-trans}
use Rattle.frontier.specs.Frontier.{Entry, Problem, answers, best, collect, covered, insert_plan, positions, solve, solved, vector, visit, walk}
use Rattle.frontier.proofs.Plans.{collect-append}
use Rattle.frontier.proofs.Walk.{walk-grows, walk-member}

module _ {C S : Type 0} (P : Problem C S) where
  open P use {order, objective, ceilings, values}

  unfoldable pub entries_at : ℕ → List (Entry C S)
  entries_at n = walk P (take n (positions values)) []

  walk-append : (l m : List (List C)) (es : List (Entry C S)) → walk P (l ++ m) es ≡ walk P m (walk P l es)
  walk-append [] m es = refl
  walk-append (b ∷ l) m es = walk-append l m (visit P es b)

  pub entries_none : entries_at 0 ≡ []
  unfolding entries_at
  entries_none = refl

  entries-step : (n : ℕ) → n < length (positions values) → entries_at (n + 1) ≡ visit P (entries_at n) (get_or (positions values) n [])
  unfolding entries_at
  entries-step n h =
      ap (λ (l : List (List C)). walk P l []) (ap (λ (k : ℕ). take k (positions values)) (add-one n) ∙ take-suc (positions values) n [] h)
      ∙ walk-append (take n (positions values)) (get_or (positions values) n [] ∷ []) []

  -- a position that is covered, and one that is not
  pub entries-skip : (n : ℕ) → n < length (positions values) → covered P (entries_at n) (get_or (positions values) n []) ≡ true → entries_at (n + 1) ≡ entries_at n
  entries-skip n h e = entries-step n h ∙ rw e

  pub entries-solve : (n : ℕ) → n < length (positions values) → covered P (entries_at n) (get_or (positions values) n []) ≡ false
      → entries_at (n + 1) ≡ entries_at n ++ (solve P (get_or (positions values) n []) ∷ [])
  entries-solve n h e = entries-step n h ∙ rw e

  -- all of them
  pub entries-all : (n : ℕ) → length (positions values) ≤ n → entries_at n ≡ solved P
  unfolding entries_at
  entries-all n h = ap (λ (l : List (List C)). walk P l []) (take_all n (positions values) h)

  entries-within : (n : ℕ) → length (entries_at n) ≤ length (solved P)
  unfolding entries_at
  entries-within n =
      let rest = drop n (positions values) in
      let whole =
      ap (λ (l : List (List C)). length (walk P l [])) (sym (take-append-drop n (positions values)))
      ∙ ap length (walk-append (take n (positions values)) rest []) in
      omega (arith, walk-grows P rest (walk P (take n (positions values)) []))

  -- where a position is still to be solved, more are solved in the end
  pub entries-fewer : (n : ℕ) → n < length (positions values) → covered P (entries_at n) (get_or (positions values) n []) ≡ false
      → length (entries_at n) < length (solved P)
  entries-fewer n h e =
      let more = ap length (entries-solve n h e) ∙ length-append (entries_at n) (solve P (get_or (positions values) n []) ∷ []) in
      omega (arith, entries-within (n + 1))

  -- the plans with an answer taken in, and with one more entry
  abbrev pub take_answer : Option S → List S → List S
  take_answer none ps = ps
  take_answer (some s) ps = insert_plan P s ps

  pub collect-more : (es : List (Entry C S)) (e : Entry C S) → collect P [] (answers P (es ++ (e ∷ []))) ≡ take_answer e.answer (collect P [] (answers P es))
  collect-more es e =
      ap (collect P []) (map_some-append (λ e. e.answer) es (e ∷ [])) ∙ collect-append P (answers P es) (answers P (e ∷ [])) [] ∙ go e.answer
    where
      go : (o : Option S) → collect P (collect P [] (answers P es)) (prepend o []) ≡ take_answer o (collect P [] (answers P es))
      go none = refl
      go (some s) = refl

  -- an answer is the best solution at a position
  pub answered : (n : ℕ) {s : S} → s ∈ answers P (entries_at n) → (b : List C) × (best P b ≡ some s)
  unfolding entries_at
  answered n {s} m =
      let w = map_some-mem (λ e. e.answer) (entries_at n) m in
      go w.0 w.2 (walk-member P (take n (positions values)) [] w.1)
    where
      go : (e : Entry C S) → e.answer ≡ some s → (e ∈ []) ⊎ ((b : List C) × (b ∈ take n (positions values)) × (e ≡ solve P b))
          → (b : List C) × (best P b ≡ some s)
      go e k (inl o) = absurd (Memᴰ.not-nil o)
      go e k (inr w) = (w.0, sym (ap (λ (x : Entry C S). x.answer) w.2) ∙ k)

  -- a best solution's objective is no higher than that of a best solution whose costs are at most its own
  pub no_lower : (b c : List C) (s t : S) → best P b ≡ some t → best P c ≡ some s → le_all order (vector P s) (vector P t) ≡ true
      → order.le (objective t) (objective s) ≡ true
  no_lower b c s t e f h =
      let o = best-some P b t e in
      o.lowest s (best-some P c s f).member
      (le_all-trans order (ceilings s) (ceilings t) b (le_all-tail order (objective s) (objective t) (ceilings s) (ceilings t) h) o.passes)
