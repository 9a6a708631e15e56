-- Edges that exceed the same ceilings: a tree stays one that fits where some such edges are replaced by as many others. An exceptional edge of a tree
-- that fits is admissible by itself. For any number of ceilings and any k.
use Rattle.std.specs.Prelude.{Bool, true, List, [], ◌∷◌, map, ◌≡◌, refl, ℕ, ◌≤◌, ltb, length}
use mathlib.Core.List.Memᴰ
use mathlib.Core.List.Memᴰ.{head as here}
use mathlib.Core.List.Memᴰ.{tail as there}
use Rattle.std.proofs.Math.Nat.{suc_inj}
use Rattle.std.proofs.Common.{arith, lt-ltb, ltb-true}
use Rattle.order.specs.Test.{by-test, left}
use Rattle.order.proofs.Test.{both, right}
use Rattle.order.specs.Lists.{◌∈◌, count, filter}
use Rattle.order.proofs.Lists.{filter-mem}
use Rattle.order.specs.Order.{TotalOrder}
use Rattle.kmax.specs.KMax.{above, count_above}
use Rattle.kmax.specs.Ceilings.{Ceiling, admissible, exceptional}
use Rattle.kmax.specs.Pattern.{lone}

-- ---- edges of one pattern are counted alike

pub count-alike : (f p : ℕ → Bool) → ((x y : ℕ) → p x ≡ true → p y ≡ true → f x ≡ f y) → (xs ys : List ℕ) → ((x : ℕ) → x ∈ xs → p x ≡ true)
    → ((y : ℕ) → y ∈ ys → p y ≡ true) → length xs ≡ length ys → count f xs ≡ count f ys
count-alike f p same [] [] h k l = refl
count-alike f p same [] (y ∷ ys) h k l = absurd (omega arith)
count-alike f p same (x ∷ xs) [] h k l = absurd (omega arith)
count-alike f p same (x ∷ xs) (y ∷ ys) h k l =
    rw (same x y (h x (here refl)) (k y (here refl)), count-alike f p same xs ys (λ z m. h z (there m)) (λ z m. k z (there m)) (suc_inj l))

-- ---- an exceptional edge of a tree that fits is admissible by itself

count-one : {A : Type 0} (p : A → Bool) {x : A} {X : List A} → x ∈ X → count p (x ∷ []) ≤ count p X
count-one {A = A} p {X = []} x3 = elim x3 [ ]
count-one p {X = y ∷ X} (here q) = rw q (by-test (p y) (λ e. rw e (omega arith)) (λ e. rw e (omega arith)))
count-one p {X = y ∷ X} (there m) =
    let rest = count-one p m in
    by-test (p y) (λ e. rw e (omega arith)) (λ e. rw e rest)

module _ {C : Type 0} (O : TotalOrder C) where
  admissible-one : (cs : List (Ceiling C)) (x : ℕ) (X : List ℕ) → x ∈ X → admissible O cs X ≡ true → admissible O cs (x ∷ []) ≡ true
  admissible-one [] x X m e = refl
  admissible-one (c ∷ cs) x X m e =
      let n = count_above O c.bound (map c.cost X) in
      let few = ltb-true n c.rank (left (ltb n c.rank) (admissible O cs X) e) in
      let one = count-one (above O c.bound) (Memᴰ.map c.cost m) in
      both (lt-ltb (count_above O c.bound (c.cost x ∷ [])) c.rank (omega arith)) (admissible-one cs x X m (right (ltb n c.rank) (admissible O cs X) e))

  pub exceptional-lone : (cs : List (Ceiling C)) (ts : List ℕ) → admissible O cs (filter (exceptional O cs) ts) ≡ true
      → (x : ℕ) → x ∈ filter (exceptional O cs) ts → lone O cs x ≡ true
  exceptional-lone cs ts a x m = both (filter-mem (exceptional O cs) ts m).1 (admissible-one cs x (filter (exceptional O cs) ts) m a)
