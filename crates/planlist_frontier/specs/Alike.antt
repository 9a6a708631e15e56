-- Two problems with the same orders of cost vectors: insertion into the frontier of one is that of the other. And vectors with the same entries
-- added behind keep their orders.
use Rattle.std.specs.Prelude.{Bool, true, false, not, cond, ◌&&◌, List, [], ◌∷◌, ◌++◌, map, ◌≡◌, refl, length}
use mathlib.Core.List.Memᴰ.{head as here}
use mathlib.Core.List.Memᴰ.{tail as there}
use Rattle.std.proofs.Common.{ap, ◌∙◌, arith}
use Rattle.order.specs.Test.{by-test}
use Rattle.order.specs.Lists.{◌∈◌, any, filter}
use Rattle.order.proofs.Lists.{filter-mem, map-mem}
use Rattle.order.specs.Order.{TotalOrder, dictionary, dictionary_le, tie_break}
use Rattle.order.proofs.Order.{le_refl}
use Rattle.order.specs.Sorted.{Rising, insert}
use Rattle.frontier.specs.Dominance.{dominates, le_all}
use Rattle.frontier.proofs.Dominance.{le_all-refl}
use Rattle.frontier.specs.Frontier.{Problem, insert_plan, vector, vector_order}

-- ---- the same entries added behind

module _ {C : Type 0} (O : TotalOrder C) where
  -- "at most" is as without them
  pub le_all-append : (v w t : List C) → length v ≡ length w → le_all O (v ++ t) (w ++ t) ≡ le_all O v w
  le_all-append [] [] t h = le_all-refl O t
  le_all-append [] (y ∷ w) t h = absurd (omega arith)
  le_all-append (x ∷ v) [] t h = absurd (omega arith)
  le_all-append (x ∷ v) (y ∷ w) t h = ap (λ (b : Bool). O.le x y && b) (le_all-append v w t (omega arith))

  -- and so is dictionary order
  pub dictionary-append : (v w t : List C) → length v ≡ length w → dictionary_le O (v ++ t) (w ++ t) ≡ dictionary_le O v w
  dictionary-append [] [] t h = le_refl (dictionary O) t
  dictionary-append [] (y ∷ w) t h = absurd (omega arith)
  dictionary-append (x ∷ v) [] t h = absurd (omega arith)
  dictionary-append (x ∷ v) (y ∷ w) t h = ap (λ (b : Bool). tie_break (O.le x y) (O.le y x) b) (dictionary-append v w t (omega arith))

-- ---- where a test of the image of each member is a test of the member

module _ {A B : Type 0} (f : A → B) where
  -- whether one passes
  any-map : (p : B → Bool) (q : A → Bool) (l : List A) → ((x : A) → x ∈ l → p (f x) ≡ q x) → any p (map f l) ≡ any q l
  any-map p q [] h = refl
  any-map p q (x ∷ l) h = rw (h x (here refl), any-map p q l (λ y m. h y (there m)))

  -- which pass
  filter_map : (p : B → Bool) (q : A → Bool) (l : List A) → ((x : A) → x ∈ l → p (f x) ≡ q x) → filter p (map f l) ≡ map f (filter q l)
  filter_map p q [] h = refl
  filter_map p q (x ∷ l) h =
      let ih = filter_map p q l (λ y m. h y (there m)) in
      by-test (q x) (λ e. rw (h x (here refl), e, ih)) (λ e. rw (h x (here refl), e, ih))

  -- where one more is put
  insert-map : {K L : Type 0} (O : TotalOrder K) (key : B → K) (Q : TotalOrder L) (key' : A → L) (x : A) (l : List A)
      → ((y : A) → y ∈ l → O.le (key (f x)) (key (f y)) ≡ Q.le (key' x) (key' y)) → insert O key (f x) (map f l) ≡ map f (insert Q key' x l)
  insert-map O key Q key' x [] h = refl
  insert-map O key Q key' x (y ∷ l) h =
      let ih = insert-map O key Q key' x l (λ z m. h z (there m)) in
      by-test (Q.le (key' x) (key' y)) (λ e. rw (h y (here refl), e)) (λ e. rw (h y (here refl), e, ih))

-- ---- problems

module _ {C D S B : Type 0} (P : Problem C S) (Q : Problem D B) (f : S → B) where
  -- the images of x and y compare as x and y do
  pub record Alike (x y : S) : Type 0 where
    pub at-most : le_all Q.order (vector Q (f x)) (vector Q (f y)) ≡ le_all P.order (vector P x) (vector P y)
    pub in_order : dictionary_le Q.order (vector Q (f x)) (vector Q (f y)) ≡ dictionary_le P.order (vector P x) (vector P y)

  -- and one image dominates the other where x dominates y
  alike-dominates : {x y : S} → Alike x y → Alike y x
      → dominates Q.order (vector Q (f x)) (vector Q (f y)) ≡ dominates P.order (vector P x) (vector P y)
  alike-dominates h k = λ i. h.at-most i && not (h.in_order i && k.in_order i)

  -- insertion of the image among the images is the image of insertion
  pub insert-alike : (s : S) (l : List S) → ((x y : S) → x ∈ s ∷ l → y ∈ s ∷ l → Alike x y) → insert_plan Q (f s) (map f l) ≡ map f (insert_plan P s l)
  insert-alike s l h =
      (λ i. cond (below i) (map f l) (insert (dictionary Q.order) (vector Q) (f s) (left i)))
      ∙ ap (cond (any (λ q. le_all P.order (vector P q) (vector P s)) l) (map f l)) put
      ∙ go (any (λ q. le_all P.order (vector P q) (vector P s)) l) (insert (dictionary P.order) (vector P) s kept)
    where
      kept : List S
      kept = filter (λ q. not (dominates P.order (vector P s) (vector P q))) l

      below : any (λ q. le_all Q.order (vector Q q) (vector Q (f s))) (map f l) ≡ any (λ q. le_all P.order (vector P q) (vector P s)) l
      below =
          any-map f (λ q. le_all Q.order (vector Q q) (vector Q (f s))) (λ q. le_all P.order (vector P q) (vector P s)) l
          (λ q m. (h q s (there m) (here refl)).at-most)

      left : filter (λ q. not (dominates Q.order (vector Q (f s)) (vector Q q))) (map f l) ≡ map f kept
      left =
          filter_map f (λ q. not (dominates Q.order (vector Q (f s)) (vector Q q))) (λ q. not (dominates P.order (vector P s) (vector P q))) l
          (λ q m. ap not (alike-dominates (h s q (here refl) (there m)) (h q s (there m) (here refl))))

      put : insert (dictionary Q.order) (vector Q) (f s) (map f kept) ≡ map f (insert (dictionary P.order) (vector P) s kept)
      put =
          insert-map f (dictionary Q.order) (vector Q) (dictionary P.order) (vector P) s kept
          (λ q m. (h s q (here refl) (there (filter-mem (λ q. not (dominates P.order (vector P s) (vector P q))) l m).0)).in_order)

      go : (b : Bool) (r : List S) → cond b (map f l) (map f r) ≡ map f (cond b l r)
      go true r = refl
      go false r = refl

  -- rising plans have rising images
  pub rising-alike : (l : List S) → ((x y : S) → x ∈ l → y ∈ l → Alike x y) → Rising (vector_order P) (vector P) l → Rising (vector_order Q) (vector Q) (map f l)
  rising-alike [] h r = tt
  rising-alike (x ∷ l) h r = (
    λ b m.
        let w = map-mem f l b m in
        ap (λ (c : B). dictionary_le Q.order (vector Q c) (vector Q (f x))) w.2 ∙ (h w.0 x (there w.1) (here refl)).in_order ∙ r.0 w.0 w.1,
    rising-alike l (λ y z m n. h y z (there m) (there n)) r.1,
  )
