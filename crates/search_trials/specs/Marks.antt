-- The flags of a trial's links, as a program sets them: those of the base one by one, then those of its exceptions.
use Rattle.std.specs.Prelude.{Option, Some, None, ℕ, zero, suc, ◌+◌, ◌≤◌, ◌<◌, Bool, true, false, cond, ◌&&◌, ◌≡◌, refl, eqb, length, get_or, replicate, set, take}
use Rattle.std.proofs.Math.Bool.{not}
use mathlib.Core.List.Memᴰ
use mathlib.Core.List.Memᴰ.{head as here}
use mathlib.Core.List.Memᴰ.{tail as there}
use mathlib.Core.List.{List, [], ◌∷◌, ◌++◌, append-nil, foldl, foldl-append}
use Rattle.std.proofs.Math.Logic.{⊎_elim}
use Rattle.std.proofs.Common.{sym, ◌∙◌, ne_eqb, subst, le_of_suc-le-suc, add-one, length-take-le, take_all, take-suc}
use Rattle.std.proofs.Math.Path.{ap}
use Rattle.std.proofs.Math.Decide.{ℕ_discrete}
use native.Mathlib.Omega.{arith}
use Rattle.std.proofs.Math.Seq.{append_snoc}
use Rattle.std.proofs.lemmas.List.{set_comm, set-get_or}
use Rattle.order.specs.Test.{by-test}
use Rattle.order.proofs.Test.{fails}
use Rattle.order.specs.Lists.{◌∈◌}
use Rattle.order.proofs.Lists.{get_or-mem}
use Rattle.order.specs.Sorted.{Apart}
use Rattle.network.specs.Capacities.{links_held}
use Rattle.spanning.specs.Places.{at_places}
use Rattle.kruskal.specs.Grown.{with_flag, flags_of}
use Rattle.search_trials.specs.Flags.{flag-member}
use Rattle.search_trials.specs.Stands.{exceptions_of, links_by, place_of}
use Rattle.search_trials.specs.declared.best.ExceptionSet.{ExceptionSet}
use Rattle.search_trials.specs.declared.best.ExceptionSet.TheVariants.{Empty, One, Two}
use Rattle.search_trials.specs.declared.best.Trial.{Trial}

-- each link of a base has a flag, and none stands in it twice
pub record Distinct (base : List ℕ) : Type 0 where
  pub apart : Apart (λ x. x) base
  pub below : (e : ℕ) → e ∈ base → e < links_held

-- the exceptions of a set have flags
abbrev pub SetFlagged : ExceptionSet → Type 0
SetFlagged Empty = Unit {0}
SetFlagged (One link) = link < links_held
SetFlagged (Two link other) = (link < links_held) × (other < links_held)

-- so do those of a trial
pub record Flagged (t : Trial) : Type 0 where
  pub set : SetFlagged t.set

-- the link at a place stays in a base without the link at another place, if any
abbrev pub stays : Option ℕ → ℕ → Bool
stays None k = true
stays (Some lost) k = not (eqb k lost)

-- a base without the links at two places
unfoldable pub without : ℕ → ℕ → List ℕ → List ℕ
without lost lost2 base = at_places (λ k. not (eqb k lost) && not (eqb k lost2)) 0 base

-- ---- the order of links does not matter

pub flag-turn : (flags : List Bool) (a b : ℕ) → with_flag (with_flag flags a) b ≡ with_flag (with_flag flags b) a
flag-turn flags a b = go (ℕ_discrete a b)
  where
    go : Dec (a ≡ b) → with_flag (with_flag flags a) b ≡ with_flag (with_flag flags b) a
    go (yes q) = rw q
    go (no n) = set_comm flags a b true true n

flag-last : (xs : List ℕ) (flags : List Bool) (e : ℕ) → foldl with_flag (with_flag flags e) xs ≡ with_flag (foldl with_flag flags xs) e
flag-last [] flags e = refl
flag-last (x ∷ xs) flags e = ap (λ (f : List Bool). foldl with_flag f xs) (flag-turn flags e x) ∙ flag-last xs (with_flag flags x) e

flags-turn : (xs ys : List ℕ) (flags : List Bool) → foldl with_flag (foldl with_flag flags xs) ys ≡ foldl with_flag (foldl with_flag flags ys) xs
flags-turn [] ys flags = refl
flags-turn (x ∷ xs) ys flags = flags-turn xs ys (with_flag flags x) ∙ ap (λ (f : List Bool). foldl with_flag f xs) (flag-last ys flags x)

pub flags-swap : (xs ys : List ℕ) → flags_of (xs ++ ys) ≡ flags_of (ys ++ xs)
unfolding flags_of
flags-swap xs ys =
    let none : List Bool = replicate links_held false in
    foldl-append with_flag none xs ys ∙ flags-turn xs ys none ∙ sym (foldl-append with_flag none ys xs)

-- one link more
pub flags-more : (xs : List ℕ) (e : ℕ) → set (flags_of xs) e true ≡ flags_of (xs ++ (e ∷ []))
unfolding flags_of
flags-more xs e = sym (foldl-append with_flag (replicate links_held false) xs (e ∷ []))

-- ---- the links at places that pass a test, one by one

module _ (p : ℕ → Bool) where
  places-among : (k : ℕ) (l : List ℕ) (x : ℕ) → x ∈ at_places p k l → x ∈ l
  unfolding at_places
  places-among k [] x m = m
  places-among k (y ∷ l) x m =
      by-test (p k)
      (λ e. ⊎_elim (λ q. here q) (λ n. there (places-among (suc k) l x n)) (Memᴰ.cases_cons (rw e at m)))
      (λ e. there (places-among (suc k) l x (rw e at m)))

  places-last : (k n : ℕ) (l : List ℕ) (x : ℕ) → k + length l ≡ n → at_places p k (l ++ (x ∷ [])) ≡ at_places p k l ++ cond (p n) (x ∷ []) []
  unfolding at_places
  places-last k n [] x h = let q : k ≡ n = omega arith in rw q
  places-last k n (y ∷ l) x h =
      let later = places-last (suc k) n l x (omega arith) in
      by-test (p k) (λ e. rw e (ap (◌∷◌ y) later)) (λ e. rw e later)

  -- the link at place k is none of those before it
  new-there : (l : List ℕ) (k : ℕ) → Apart (λ x. x) l → k < length l → get_or l k 0 ∈ take k l → ⊥
  new-there [] k a h m = absurd (omega arith)
  new-there (x ∷ l) zero a h m = elim m [ ]
  new-there (x ∷ l) (suc k) a h m =
      ⊎_elim (λ q. a.0 (get_or l k 0) (get_or-mem l k 0 (le_of_suc-le-suc h)) q) (new-there l k a.1 (le_of_suc-le-suc h)) (Memᴰ.cases_cons m)

  -- one turn: the flag of the link at place k is set or not, as the test says
  pub places-turn : (l : List ℕ) (k : ℕ) → Apart (λ x. x) l → k < length l
      → set (flags_of (at_places p 0 (take k l))) (get_or l k 0) (p k) ≡ flags_of (at_places p 0 (take (k + 1) l))
  places-turn l k a h =
      let e = get_or l k 0 in
      let before = at_places p 0 (take k l) in
      let size : 0 + length (take k l) ≡ k = omega (arith, length-take-le k l (omega arith)) in
      let unset : get_or (flags_of before) e false ≡ false =
      fails (get_or (flags_of before) e false) (λ f. new-there l k a h (places-among 0 (take k l) e (flag-member before e f))) in
      rw (add-one k, take-suc l k 0 h, places-last 0 k (take k l) e size)
      (by-test (p k)
      (λ t. rw t (flags-more before e))
      (λ t. rw (t, append-nil before)
      (subst (λ (b : Bool). set (flags_of before) e b ≡ flags_of before) unset (set-get_or (flags_of before) e false))))

-- the start, a turn and the end of the loop over the base
module _ (lost lost2 : ℕ) (base : List ℕ) where
  pub without-start : {taken : List Bool} → taken ≡ replicate links_held false → taken ≡ flags_of (without lost lost2 (take 0 base))
  unfolding without flags_of at_places
  without-start e = e

  pub without-turn : {taken : List Bool} (k : ℕ) → Distinct base → k < length base → taken ≡ flags_of (without lost lost2 (take k base))
      → set taken (get_or base k 0) (not (eqb k lost) && not (eqb k lost2)) ≡ flags_of (without lost lost2 (take (k + 1) base))
  unfolding without
  without-turn k d h e = rw e (places-turn (λ k. not (eqb k lost) && not (eqb k lost2)) base k d.apart h)

  pub without_end : {taken : List Bool} (k : ℕ) → length base ≤ k → taken ≡ flags_of (without lost lost2 (take k base))
      → taken ≡ flags_of (without lost lost2 base)
  without_end k h e = rw (take_all k base h) at e

-- a link of the base stays where it is not the one at the place
pub stays-there : (base : List ℕ) (lost : Option ℕ) (k : ℕ) → k < length base → stays lost k ≡ not (eqb k (place_of base lost))
stays-there base None k h = rw (ne_eqb k (length base) (λ q. omega arith))
stays-there base (Some lost) k h = refl

-- ---- and then the exceptions

module _ (base : List ℕ) (t : Trial) {taken : List Bool} (e : taken ≡ flags_of (without (place_of base t.lost) (place_of base t.lost2) base)) where
  -- the base's links that a trial keeps
  abbrev rest : List ℕ
  rest = without (place_of base t.lost) (place_of base t.lost2) base

  pub none-set : t.set ≡ Empty → taken ≡ flags_of (links_by base t)
  unfolding links_by exceptions_of without
  none-set q = rw q e

  pub one-set : {a : ℕ} → t.set ≡ One a → set taken a true ≡ flags_of (links_by base t)
  unfolding links_by exceptions_of without
  one-set {a} q = rw (q, e) (flags-more rest a ∙ flags-swap rest (a ∷ []))

  pub two-set : {a b : ℕ} → t.set ≡ Two a b → set (set taken a true) b true ≡ flags_of (links_by base t)
  unfolding links_by exceptions_of without
  two-set {a} {b} q =
      rw (q, e, flags-more rest a)
      (flags-more (rest ++ (a ∷ [])) b ∙ ap flags_of (append_snoc rest a (b ∷ [])) ∙ flags-swap rest (a ∷ b ∷ []))
