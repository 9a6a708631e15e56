-- Insertion into the frontier of plans that stand as records in their order: it is that of `frontier`, on records by the costs they hold.
use Rattle.std.specs.Prelude.{◌≡◌, refl, Bool, true, false, not, cond, List, [], ◌∷◌, ◌++◌, ◌⊎◌, ℕ, suc, ℤ, take, drop}
use Rattle.std.proofs.Common.{sym, ap, ap₂, ◌∙◌, inl, inr, ⊎_elim}
use mathlib.Core.List.Memᴰ
use mathlib.Core.List.Memᴰ.{head as here}
use Rattle.order.specs.Test.{by-test, clash}
use Rattle.order.proofs.Test.{refute}
use Rattle.order.specs.Lists.{◌∈◌, any, filter}
use Rattle.order.proofs.Lists.{filter-mem}
use Rattle.order.specs.Order.{TotalOrder, orderℤ, dictionary_le}
use Rattle.order.specs.Sorted.{Rising, Sorted, insert}
use Rattle.order.proofs.Sorted.{rising-sorted}
use Rattle.frontier.specs.Dominance.{le_all, dominates}
use Rattle.frontier.proofs.Dominance.{le_all-refl, le_all→dictionary_le, le-cases}
use Rattle.frontier.specs.Frontier.{Problem, insert_plan, vector, vector_order}
use Rattle.network.specs.declared.Costs.{Costs}
use Rattle.network.specs.PlanList.{costs_at}
use Rattle.planlist_records.specs.Orders.{at_most, in_order}

-- records with room for so many ceiling costs, as solutions: the sum is the objective
abbrev pub records : ℕ → Problem ℤ (List ℕ)
records slots = record {
  order = orderℤ;
  solutions = [];
  objective = λ b. (costs_at slots b 0).sum;
  ceilings = λ b. (costs_at slots b 0).y;
  values = [];
}

-- one more record in the frontier
unfoldable pub insert_record : ℕ → List ℕ → List (List ℕ) → List (List ℕ)
insert_record slots x bs = insert_plan (records slots) x bs

-- ---- its parts

-- a record holds costs that are at most v
unfoldable pub covered_by : ℕ → Costs → List (List ℕ) → Bool
covered_by slots v bs = any (λ b. at_most (costs_at slots b 0) v) bs

-- the records whose costs v is not at most
unfoldable pub pruned_by : ℕ → Costs → List (List ℕ) → List (List ℕ)
pruned_by slots v bs = filter (λ b. not (at_most v (costs_at slots b 0))) bs

-- how many members stand before the first that passes the test
abbrev pub leading : {A : Type 0} → (A → Bool) → List A → ℕ
leading p [] = 0
leading p (x ∷ l) = let r = leading p l in cond (p x) 0 (suc r)

-- the number of records that stand before v
unfoldable pub place_of : ℕ → Costs → List (List ℕ) → ℕ
place_of slots v bs = leading (λ b. in_order v (costs_at slots b 0)) bs

-- the records stand in strictly rising order of their costs
pub record RecordsRise (slots : ℕ) (bs : List (List ℕ)) : Type 0 where
  pub rising : Rising (vector_order (records slots)) (vector (records slots)) bs

-- ---- insertion by its parts

module _ {K A : Type 0} (O : TotalOrder K) (key : A → K) (x : A) where
  -- x is put in front of members that are not below it
  insert-first : (l : List A) → ((y : A) → y ∈ l → O.le (key x) (key y) ≡ true) → insert O key x l ≡ x ∷ l
  insert-first [] h = refl
  insert-first (y ∷ l) h = rw (h y (here refl))

  -- among the members of a sorted list that pass a test, where those below x do: behind these, and before what is left of the others
  insert-kept : (p : A → Bool) → ((y : A) → O.le (key x) (key y) ≡ false → p y ≡ true) → (l : List A) → Sorted O key l
      → insert O key x (filter p l) ≡ take (leading (λ y. O.le (key x) (key y)) l) l ++ x ∷ filter p (drop (leading (λ y. O.le (key x) (key y)) l) l)
  insert-kept p h [] s = refl
  insert-kept p h (y ∷ l) s =
      by-test (O.le (key x) (key y))
      (λ e. rw e (insert-first (filter p (y ∷ l)) (λ z m. behind e z (Memᴰ.cases_cons (filter-mem p (y ∷ l) m).0))))
      (λ e. rw (h y e, e) (ap (λ (r : List A). y ∷ r) (insert-kept p h l s.1)))
    where
      behind : O.le (key x) (key y) ≡ true → (z : A) → (z ≡ y) ⊎ (z ∈ l) → O.le (key x) (key z) ≡ true
      behind e z (inl q) = rw q e
      behind e z (inr m) = O.le_trans (key x) (key y) (key z) e (s.0 z m)

module _ {C A : Type 0} (O : TotalOrder C) (key : A → List C) (x : A) where
  -- where y is not at most x, x dominates y if it is at most y
  same-dominated : (y : A) → le_all O (key y) (key x) ≡ false → dominates O (key x) (key y) ≡ le_all O (key x) (key y)
  same-dominated y h =
      by-test (le_all O (key x) (key y))
      (λ e. ⊎_elim (λ q. clash (rw q (le_all-refl O (key y))) h) (λ d. d ∙ sym e) (le-cases O (key x) (key y) e))
      (λ e. rw e)

  -- where no member is at most x, those that x dominates are those that it is at most
  dominated : (l : List A) → any (λ y. le_all O (key y) (key x)) l ≡ false
      → filter (λ y. not (dominates O (key x) (key y))) l ≡ filter (λ y. not (le_all O (key x) (key y))) l
  dominated [] h = refl
  dominated (y ∷ l) h =
      by-test (le_all O (key y) (key x))
      (λ e. clash (rw e refl) h)
      (λ e. ap₂ (λ (b : Bool) (r : List A). cond (not b) (y ∷ r) r) (same-dominated y e) (dominated l (rw e at h)))

-- insertion into a frontier, by the tests that the code makes
module _ {C S : Type 0} (P : Problem C S) (s : S) where
  -- s before the first plan that is not below it, and no later plan that it is at most
  abbrev placed : List S → List S
  placed l =
      let n = leading (λ q. dictionary_le P.order (vector P s) (vector P q)) l in
      take n l ++ s ∷ filter (λ q. not (le_all P.order (vector P s) (vector P q))) (drop n l)

  -- a frontier with s inserted: as it was where a plan of it is at most s, and else with s placed
  by_parts : (l : List S) → Rising (vector_order P) (vector P) l
      → insert_plan P s l ≡ cond (any (λ q. le_all P.order (vector P q) (vector P s)) l) l (placed l)
  by_parts l r = go (any (λ q. le_all P.order (vector P q) (vector P s)) l) refl
    where
      in-front : (q : S) → dictionary_le P.order (vector P s) (vector P q) ≡ false → le_all P.order (vector P s) (vector P q) ≡ false
      in-front q =
          refute (le_all P.order (vector P s) (vector P q)) (dictionary_le P.order (vector P s) (vector P q))
          (le_all→dictionary_le P.order (vector P s) (vector P q))

      go : (b : Bool) → any (λ q. le_all P.order (vector P q) (vector P s)) l ≡ b
          → cond b l (insert (vector_order P) (vector P) s (filter (λ q. not (dominates P.order (vector P s) (vector P q))) l))
          ≡ cond b l (placed l)
      go true e = refl
      go false e =
          ap (insert (vector_order P) (vector P) s) (dominated P.order (vector P) s l e)
          ∙ insert-kept (vector_order P) (vector P) s (λ q. not (le_all P.order (vector P s) (vector P q))) (λ q k. ap not (in-front q k)) l
          (rising-sorted (vector_order P) (vector P) l r)

-- of a record with the costs v
module _ (slots : ℕ) (x : List ℕ) (v : Costs) (bs : List (List ℕ)) (rise : RecordsRise slots bs) (holds : costs_at slots x 0 ≡ v) where
  -- x among bs, by its costs and whether a record is at most them
  inserted : Costs → Bool → List (List ℕ)
  inserted w b = cond b bs (take (place_of slots w bs) bs ++ x ∷ pruned_by slots w (drop (place_of slots w bs) bs))

  parts : insert_record slots x bs ≡ inserted (costs_at slots x 0) (covered_by slots (costs_at slots x 0) bs)
  unfolding insert_record inserted covered_by pruned_by place_of at_most in_order
  parts = by_parts (records slots) x bs rise.rising

  in_parts : {b : Bool} → covered_by slots v bs ≡ b → insert_record slots x bs ≡ inserted v b
  in_parts t = parts ∙ ap (λ (w : Costs). inserted w (covered_by slots w bs)) holds ∙ ap (inserted v) t

  -- where a record is at most it, the records stay as they are
  pub insert-covered : covered_by slots v bs ≡ true → insert_record slots x bs ≡ bs
  unfolding inserted
  insert-covered t = in_parts t

  -- else it stands at its place, and the records behind it that it is at most are gone
  pub insert-free : covered_by slots v bs ≡ false → insert_record slots x bs ≡ take (place_of slots v bs) bs ++ x ∷ pruned_by slots v (drop (place_of slots v bs) bs)
  unfolding inserted
  insert-free t = in_parts t
