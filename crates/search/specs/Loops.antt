-- The search over all sets: what is left of a loop over them at a turn, and what it comes to.
use Rattle.std.specs.Prelude.{Option, ℕ, suc, ◌+◌, ◌-◌, ◌/◌, ◌%◌, ◌≤◌, ◌<◌, Bool, true, false, ◌≡◌, leb, length, take, drop}
use mathlib.Core.List.{List, [], ◌∷◌, map, ◌++◌, foldl, foldl-append}
use mathlib.Core.List.Memᴰ
use mathlib.Core.List.Memᴰ.{head as here}
use mathlib.Core.List.Memᴰ.{tail as there}
use Rattle.std.proofs.Common.{⊎_elim, ◌∙◌, add-one, arith, leb-true, drop_of_length-le}
use Rattle.std.proofs.Math.Path.{refl, sym, ap}
use Rattle.std.proofs.lemmas.Bool.{not-false, not-true}
use Rattle.std.proofs.Math.ListN.{get_or}
use Rattle.std.proofs.Math.Seq.{drop-cons}
use Rattle.order.specs.Test.{by-test, left}
use Rattle.order.proofs.Test.{fails, right}
use Rattle.order.specs.Lists.{◌∈◌, count}
use Rattle.order.proofs.Lists.{map-mem, sublist-⊆}
use Rattle.order.specs.Order.{orderℕ}
use Rattle.order.specs.Perm.{sum}
use Rattle.order.proofs.Perm.{pairwise-sublist}
use Rattle.order.specs.Sorted.{Sorted}
use Rattle.network.specs.Yard.{sum_at}
use Rattle.kmax.specs.Ceilings.{slack_of}
use Rattle.kmax.specs.Digits.{admits, marked, ones}
use Rattle.kmax.proofs.Digits.{admits-few}
use Rattle.exceptions.specs.Patterns.{Patterned, admitted, pattern_at}
use Rattle.exceptions.specs.Keep.{Exceptions}
use Rattle.exceptions.specs.Select.{sublist-in-order}
use Rattle.search_trials.specs.Sets.{higher, lower, pair, sets, singles, trials}
use Rattle.search_trials.specs.Search.{Best, considered, offered, tried, tried_if}
use Rattle.search_trials.specs.Stands.{grown_from}
use Rattle.search_trials.specs.Rest.{drop-sublist, from_place, loses-more, loses_to, losing, rest_of}
use Rattle.search_trials.specs.Grows.{ring}
use Rattle.search_trials.specs.Trials.{Joining, ring-tried, two-tried}
use Rattle.search.specs.Begun.{Tryable, fitting}

pair-sum : (c : ℕ → ℕ) (x y : ℕ) → sum c (pair x y) ≡ c x + c y
unfolding lower higher
pair-sum c x y = by-test (leb x y) (λ k. rw k (omega arith)) (λ k. rw k (omega arith))

-- the links from a place on can be tried too
pub place-tryable : {ends sums l : List ℕ} (i : ℕ) → Tryable ends sums l → Tryable ends sums (drop i l)
place-tryable {sums = sums} {l} i v =
    record { order = sublist-in-order sums (drop-sublist l i) v.order; joining = λ e m. v.joining e (sublist-⊆ (drop-sublist l i) e m) }

-- a link and those behind it, as a part of a slice has them
pub place-list : (l : List ℕ) (i : ℕ) → i < length l → get_or l i 0 ∷ take (length l - (i + 1)) (drop (i + 1) l) ≡ drop i l
place-list l i h = rw (from_place l (i + 1), drop-cons l i 0 h, add-one i)

-- the rest of links in rising order of cost
sorted-drop : (c : ℕ → ℕ) (l : List ℕ) (i : ℕ) → Sorted orderℕ c l → Sorted orderℕ c (drop i l)
sorted-drop c l i s = pairwise-sublist _ (drop-sublist l i) s

-- a link behind place i costs no less than the one at i
later-dearer : (c : ℕ → ℕ) (l : List ℕ) (i y : ℕ) → Sorted orderℕ c l → i < length l → y ∈ drop i l → c (get_or l i 0) ≤ c y
later-dearer c l i y s h m =
    let q = drop-cons l i 0 h in
    let sorted = rw q at (sorted-drop c l i s) in
    ⊎_elim (λ e. rw e (omega arith)) (λ k. leb-true (c (get_or l i 0)) (c y) (sorted.0 y k)) (Memᴰ.cases_cons (rw q at m))

-- sets that change nothing, one by one, change nothing together
unchanged : (try : Best → List ℕ → Best) (b : Best) (Xs : List (List ℕ)) → ((X : List ℕ) → X ∈ Xs → b ≡ try b X) → foldl try b Xs ≡ b
unchanged try b [] h = refl
unchanged try b (X ∷ Xs) h = rw (← h X (here refl)) (unchanged try b Xs (λ Y m. h Y (there m)))

-- ---- the sets of one link

module _ (ends sums : List ℕ) (goal : ℕ) (base : List ℕ) where
  -- two exceptions that fit together are tried, and others change nothing
  module _ (b : Best) (ks : List ℕ) {x y : ℕ} (p q : ℕ) (j : Joining ends sums x) (k : Joining ends sums y) where
    pub pair-tried : fitting ends ks x p y q ≡ true
        → tried_if ends sums goal (admits ks (p ∷ q ∷ [])) base b (pair x y) ≡ offered goal b (grown_from ends sums base (pair x y))
    unfolding tried_if fitting
    pair-tried t =
        rw (left (admits ks (p ∷ q ∷ [])) _ t)
        (two-tried ends sums goal base b j k (not-true (ring ends x y) (right (admits ks (p ∷ q ∷ [])) _ t)))

    pub pair_left : fitting ends ks x p y q ≡ false → b ≡ tried_if ends sums goal (admits ks (p ∷ q ∷ [])) base b (pair x y)
    unfolding tried_if fitting
    pair_left t =
        by-test (admits ks (p ∷ q ∷ []))
        (λ e. rw e (sym (ring-tried ends sums goal base b j k (not-false (ring ends x y) (rw e at t)))))
        (λ e. rw e)

  -- what those of the links of l from place i on leave of the best so far
  unfoldable pub tried_ones : Best → List ℕ → ℕ → Best
  tried_ones b l i = foldl (tried ends sums goal base) b (singles (drop i l))

  pub ones-turn : (b b' w : Best) (l : List ℕ) (i : ℕ) → i < length l → tried_ones b l i ≡ w → b' ≡ tried ends sums goal base b (get_or l i 0 ∷ [])
      → tried_ones b' l (i + 1) ≡ w
  unfolding tried_ones singles
  ones-turn b b' w l i h e q = rw (q, ← e, drop-cons l i 0 h, add-one)

  pub ones-end : (b w : Best) (l : List ℕ) (i : ℕ) → length l ≤ i → tried_ones b l i ≡ w → b ≡ w
  unfolding tried_ones singles
  ones-end b w l i h e = rw (drop_of_length-le l h) at e

  -- where the set of the link at i loses, those behind it lose too
  pub ones-lose : Sorted orderℕ (sum_at sums) base → (b w : Best) (l : List ℕ) (i : ℕ) (rest : Option ℕ) (c : ℕ) → Sorted orderℕ (sum_at sums) l → i < length l
      → rest ≡ rest_of sums base goal 1 → c ≡ sum_at sums (get_or l i 0) → loses_to rest c b.found b.sum ≡ true → tried_ones b l i ≡ w → b ≡ w
  unfolding tried_ones singles
  ones-lose by-cost b w l i rest c sorted h e f k q =
      sym (unchanged (tried ends sums goal base) b (map (λ x. x ∷ []) (drop i l)) (λ X m.
      let y = map-mem (λ x. x ∷ []) (drop i l) X m in
      let dearer = later-dearer (sum_at sums) l i y.0 sorted h y.1 in
      let dear = loses-more (rest_of sums base goal 1) _ _ b.found b.sum (omega (arith, f)) (rw e at k) in
      rw y.2 (losing ends sums goal base by-cost b (y.0 ∷ []) dear)))
      ∙ q

-- ---- sets that are admitted

-- of two patterns either may come first
admits-swap : (ks : List ℕ) (a b : ℕ) → admits ks (a ∷ b ∷ []) ≡ admits ks (b ∷ a ∷ [])
unfolding admits ones
admits-swap [] a b = refl
admits-swap (k ∷ ks) a b =
    let same : a % 2 + (b % 2 + 0) ≡ b % 2 + (a % 2 + 0) = omega arith in
    rw (same, admits-swap ks (a / 2) (b / 2))

pair-admitted : (ks patterns : List ℕ) (x y : ℕ) → admits ks (pattern_at patterns x ∷ pattern_at patterns y ∷ []) ≡ admitted ks patterns (pair x y)
unfolding admitted lower higher
pair-admitted ks patterns x y =
    by-test (leb x y) (λ k. rw k) (λ k. rw k (admits-swap ks (pattern_at patterns x) (pattern_at patterns y)))

-- where all ranks together have less than 2 above 1, no two exceptions are admitted
pair-barred : (ks patterns : List ℕ) {m : ℕ} → Patterned m ks patterns → slack_of ks < 2 → (x y : ℕ) → x < m → y < m
    → marked (pattern_at patterns x) ≡ true → marked (pattern_at patterns y) ≡ true → admitted ks patterns (pair x y) ≡ false
pair-barred ks patterns P few x y hx hy mx my =
    sym (pair-admitted ks patterns x y)
    ∙ fails _ (λ a.
    let p = pattern_at patterns x in
    let q = pattern_at patterns y in
    let both : count marked (p ∷ q ∷ []) ≡ 2 = rw (mx, my) in
    let most = admits-few ks (p ∷ q ∷ [])
    (λ r m. ⊎_elim
    (λ (e : r ≡ p). rw e (P.digits x hx))
    (λ k. let e : r ≡ q = Memᴰ.eq_of_singleton k in rw e (P.digits y hy))
    (Memᴰ.cases_cons m)) a in
    omega arith)

module _ (ends sums : List ℕ) (goal : ℕ) (ks patterns base : List ℕ) where
  -- what a list of sets leaves of the best so far
  unfoldable pub searched : Best → List (List ℕ) → Best
  searched b Xs = foldl (considered ends sums goal ks patterns base) b Xs

  -- a set that is admitted is tried, and no other
  pub admitted-tried : (b r : Best) (X : List ℕ) → admitted ks patterns X ≡ true → r ≡ tried ends sums goal base b X
      → r ≡ considered ends sums goal ks patterns base b X
  unfolding tried_if
  admitted-tried b r X a e = rw a e

  inadmissible : (b : Best) (X : List ℕ) → admitted ks patterns X ≡ false → b ≡ considered ends sums goal ks patterns base b X
  unfolding tried_if
  inadmissible b X g = rw g

  -- one that loses changes nothing, admitted or not
  lost : (b : Best) (X : List ℕ) → b ≡ tried ends sums goal base b X → b ≡ considered ends sums goal ks patterns base b X
  unfolding tried_if
  lost b X e = by-test (admitted ks patterns X) (λ a. rw a e) (λ a. rw a)

  -- ---- the sets of the first link of l and the links from place i on

  -- what they leave of the best so far
  unfoldable pub with_pairs : Best → List ℕ → ℕ → Best
  with_pairs b l i = searched b (map (pair (get_or l 0 0)) (drop i l))

  pub pairs-turn : (b b' w : Best) (ok : Bool) (l : List ℕ) (i : ℕ) → i < length l → with_pairs b l i ≡ w
      → ok ≡ admits ks (pattern_at patterns (get_or l 0 0) ∷ pattern_at patterns (get_or l i 0) ∷ [])
      → b' ≡ tried_if ends sums goal ok base b (pair (get_or l 0 0) (get_or l i 0)) → with_pairs b' l (i + 1) ≡ w
  unfolding with_pairs searched
  pairs-turn b b' w ok l i h e a q =
      let fit = a ∙ pair-admitted ks patterns (get_or l 0 0) (get_or l i 0) in
      rw (q, fit, ← e, drop-cons l i 0 h, add-one)

  pub pairs_end : (b w : Best) (l : List ℕ) (i : ℕ) → length l ≤ i → with_pairs b l i ≡ w → b ≡ w
  unfolding with_pairs searched
  pairs_end b w l i h e = rw (drop_of_length-le l h) at e

  -- where the set with the link at i loses, those behind it lose too
  pub pairs-lose : Sorted orderℕ (sum_at sums) base → (b w : Best) (l : List ℕ) (i : ℕ) (rest : Option ℕ) (c d : ℕ)
      → Sorted orderℕ (sum_at sums) l → i < length l
      → rest ≡ rest_of sums base goal 2 → c ≡ sum_at sums (get_or l 0 0) → d ≡ sum_at sums (get_or l i 0) → loses_to rest (c + d) b.found b.sum ≡ true
      → with_pairs b l i ≡ w → b ≡ w
  unfolding with_pairs searched
  pairs-lose by-cost b w l i rest c d sorted h e f g k q =
      let x = get_or l 0 0 in
      sym (unchanged (considered ends sums goal ks patterns base) b (map (pair x) (drop i l)) (λ X m.
      let y = map-mem (pair x) (drop i l) X m in
      let dearer = later-dearer (sum_at sums) l i y.0 sorted h y.1 in
      let cost = pair-sum (sum_at sums) x y.0 in
      let dear = loses-more (rest_of sums base goal 2) _ _ b.found b.sum (omega (arith, f, g)) (rw e at k) in
      rw y.2 (lost b (pair x y.0) (losing ends sums goal base by-cost b (pair x y.0) dear))))
      ∙ q

  -- ---- the sets of one and two links of l from place i on

  -- what they leave of the best so far
  unfoldable pub with_sets : Best → List ℕ → ℕ → Best
  with_sets b l i = searched b (sets (drop i l))

  pub sets-start : (b : Best) (l : List ℕ) → with_sets b l 0 ≡ searched b (sets l)
  unfolding with_sets
  sets-start b l = refl

  pub sets-turn : (b b' b'' w : Best) (l : List ℕ) (i : ℕ) → i < length l → with_sets b l i ≡ w
      → b' ≡ considered ends sums goal ks patterns base b (get_or l i 0 ∷ []) → b'' ≡ with_pairs b' (drop i l) 1 → with_sets b'' l (i + 1) ≡ w
  unfolding with_sets with_pairs searched sets
  sets-turn b b' b'' w l i h e q p =
      let x = get_or l i 0 in
      let try = considered ends sums goal ks patterns base in
      let later = rw (drop-cons l i 0 h) at p in
      rw (later, q, ← e, drop-cons l i 0 h, add-one) (sym (foldl-append try (try b (x ∷ [])) (map (pair x) (drop (suc i) l)) (sets (drop (suc i) l))))

  pub sets_end : (b w : Best) (l : List ℕ) (i : ℕ) → length l ≤ i → with_sets b l i ≡ w → b ≡ w
  unfolding with_sets searched sets
  sets_end b w l i h e = rw (drop_of_length-le l h) at e

  -- ---- all sets

  -- where no two exceptions are admitted, those of one link are all
  module _ {m : ℕ} (P : Patterned m ks patterns) (few : slack_of ks < 2) where
    ones-searched : (b : Best) (l : List ℕ) → Exceptions ks patterns l → ((x : ℕ) → x ∈ l → x < m)
        → foldl (tried ends sums goal base) b (singles l) ≡ searched b (sets l)
    unfolding searched sets singles
    ones-searched b [] E below = refl
    ones-searched b (x ∷ l) E below =
        let try = considered ends sums goal ks patterns base in
        let b' = tried ends sums goal base b (x ∷ []) in
        let first : b' ≡ try b (x ∷ []) = admitted-tried b b' (x ∷ []) (E.alone x (here refl)) refl in
        let barred : searched b' (map (pair x) l) ≡ b' = unchanged try b' (map (pair x) l) (λ X m.
        let y = map-mem (pair x) l X m in
        rw y.2 (inadmissible b' (pair x y.0) (pair-barred ks patterns P few x y.0 (below x (here refl)) (below y.0 (there y.1))
        (E.above x (here refl)) (E.above y.0 (there y.1))))) in
        let later : Exceptions ks patterns l = record { above = λ y m. E.above y (there m); alone = λ y m. E.alone y (there m) } in
        ones-searched b' l later (λ y m. below y (there m))
        ∙ ap (λ (c : Best). foldl try c (sets l)) (sym barred)
        ∙ sym (foldl-append try b' (map (pair x) l) (sets l))
        ∙ ap (λ (c : Best). foldl try c (map (pair x) l ++ sets l)) first

    pub ones-all : (b r : Best) (l : List ℕ) → Exceptions ks patterns l → ((x : ℕ) → x ∈ l → x < m)
        → r ≡ tried_ones ends sums goal base b l 0 → r ≡ searched b (sets l)
    unfolding tried_ones
    ones-all b r l E below e = e ∙ ones-searched b l E below

  pub trials-searched : (b₀ b r : Best) (l : List ℕ) → b ≡ considered ends sums goal ks patterns base b₀ [] → r ≡ searched b (sets l)
      → r ≡ searched b₀ (trials l)
  unfolding searched
  trials-searched b₀ b r l e q = q ∙ ap (λ (k : Best). foldl (considered ends sums goal ks patterns base) k (sets l)) e

  -- without exceptions there are no other sets
  pub none-searched : (b : Best) (l : List ℕ) → length l ≡ 0 → b ≡ searched b (sets l)
  unfolding searched sets
  none-searched b [] h = refl
  none-searched b (x ∷ l) h = absurd (omega arith)
