-- The links that Kruskal's method keeps of each pattern, collected in one pass: among them those of one pattern are what the method keeps of the links
-- of that pattern alone.
use Rattle.std.specs.Prelude.{ℕ, ◌+◌, ◌≤◌, ◌<◌, Bool, cond, ◌&&◌, ◌≡◌, length, replicate, set, take, drop}
use Rattle.std.proofs.Math.Bool.{true, false}
use mathlib.Core.List.Memᴰ
use mathlib.Core.List.Memᴰ.{head as here}
use mathlib.Core.List.{List, [], ◌∷◌, ◌++◌, append-nil}
use mathlib.Core.List.{Sublistᴰ}
use Rattle.std.proofs.Common.{inl, inr, ◌∙◌, arith, length-set, drop_of_length-le, drop-cons, get_or-set_other, get_or-set_same}
use Rattle.std.proofs.Math.Logic.{⊎_elim}
use Rattle.std.proofs.Math.Path.{refl, sym, ap, subst}
use Rattle.std.proofs.Math.Decide.{ℕ_discrete}
use Rattle.std.proofs.Math.Nat.{pow-le-pow_right}
use Rattle.std.proofs.Math.Numerals.{add-one}
use Rattle.std.proofs.Math.Dec.{eqb}
use Rattle.std.proofs.lemmas.List.{get_or-replicate}
use Rattle.std.proofs.Math.ListN.{length-replicate, get_or}
use Rattle.std.proofs.Math.Seq.{append_snoc, take-suc-set}
use borrow.Author.Tests.{eq-eqb, eqb-true}
use Rattle.order.specs.Test.{Decided, by-test, clash, left}
use Rattle.order.proofs.Test.{decide, right}
use Rattle.order.specs.Lists.{◌∈◌, count, filter}
use Rattle.order.proofs.Lists.{sublist-⊆}
use Rattle.spanning.specs.Labelling.{Edge, Labelling, crosses}
use Rattle.spanning.proofs.Labelling.{Crosses→crosses, crosses→Crosses}
use Rattle.spanning.specs.LabelList.{label_of}
use Rattle.spanning.specs.Tree.{EndsBelow, identity}
use Rattle.network.specs.Capacities.{patterns_held, stations_held}
use Rattle.kmax.specs.Ceilings.{slack_of}
use Rattle.kmax.specs.Digits.{admits, marked}
use Rattle.kmax.proofs.Digits.{admits-few}
use Rattle.forest.specs.Groups.{Led, apart, apart-led, joined, joined-led, nobody}
use Rattle.forest.specs.declared.Forest.{Forest}
use Rattle.network.specs.Yard.{ends_at}
use Rattle.kruskal.specs.Base.{kept}
use Rattle.exceptions.specs.Patterns.{Patterned, admitted, pattern_at}
use Rattle.exceptions.specs.Fit.{fit_at, fit_of}

-- a link that joins two groups joins two stations
crosses-apart : (L : Labelling) (e : Edge) → crosses L e ≡ true → crosses identity e ≡ true
crosses-apart L e c = Crosses→crosses identity e (λ s. crosses→Crosses L e c (ap L s))

-- nothing joined, for each pattern
unfoldable pub separate : List Forest
separate = replicate patterns_held apart

-- the groups of each pattern are led
abbrev pub AllLed : List Forest → Type 0
AllLed fs = (q : ℕ) → q < length fs → Led (get_or fs q nobody)

-- at the start they are
pub alone-led : (n : ℕ) (alone : Forest) → alone ≡ apart → AllLed (replicate n alone)
alone-led n alone e q h =
    let known : q < n = omega (arith, length-replicate n alone) in
    rw (get_or-replicate n q alone nobody known, e) apart-led

module _ (ends patterns : List ℕ) (fit : List Bool) where
  -- link e is kept: its pattern is fit for exceptions, and it joins two groups of that pattern
  abbrev pub joins : List Forest → ℕ → Bool
  joins fs e = get_or fit (pattern_at patterns e) false && crosses (label_of (get_or fs (pattern_at patterns e) nobody).leader) (ends_at ends e)

  -- the groups once it is: those of its pattern have its ends joined
  abbrev pub after : List Forest → ℕ → List Forest
  after fs e = set fs (pattern_at patterns e) (joined (get_or fs (pattern_at patterns e) nobody) (ends_at ends e).a (ends_at ends e).b)

  -- the links of a list that are kept, from the groups of each pattern
  unfoldable pub kept_by : List Forest → List ℕ → List ℕ
  kept_by fs [] = []
  kept_by fs (e ∷ l) =
      let more = kept_by (after fs e) l in
      let rest = kept_by fs l in
      cond (joins fs e) (e ∷ more) rest

  module _ (fs : List Forest) (e : ℕ) where
    -- there are as many as before
    after-length : length (after fs e) ≡ length fs
    after-length = length-set fs (pattern_at patterns e) (joined (get_or fs (pattern_at patterns e) nobody) (ends_at ends e).a (ends_at ends e).b)

    -- the groups of a pattern after a link of it, and of another pattern
    own-after : (q : ℕ) → q < length fs → pattern_at patterns e ≡ q
        → get_or (after fs e) q nobody ≡ joined (get_or fs q nobody) (ends_at ends e).a (ends_at ends e).b
    own-after q h w = rw w (get_or-set_same fs q (joined (get_or fs q nobody) (ends_at ends e).a (ends_at ends e).b) nobody h)

    other_after : (q : ℕ) → (pattern_at patterns e ≡ q → ⊥) → get_or (after fs e) q nobody ≡ get_or fs q nobody
    other_after q w = get_or-set_other fs (pattern_at patterns e) q _ nobody (λ z. w (sym z))

    -- a link between two stations leaves all of them led
    pub after-led : EndsBelow stations_held (ends_at ends e) → AllLed fs → AllLed (after fs e)
    after-led w led q h = go (ℕ_discrete (pattern_at patterns e) q)
      where
        known : q < length fs
        known = omega (arith, h, after-length)

        go : Dec (pattern_at patterns e ≡ q) → Led (get_or (after fs e) q nobody)
        go (yes p) = rw (own-after q known p) (joined-led (get_or fs q nobody) (ends_at ends e).a (ends_at ends e).b (led q known) w.0 w.1)
        go (no n) = rw (other_after q n) (led q known)

  -- ---- THE LAW: of one such pattern it keeps what Kruskal's method keeps of the links of that pattern alone
  module _ (q : ℕ) (fits : get_or fit q false ≡ true) where
    -- a link of that pattern
    abbrev of : ℕ → Bool
    of e = eqb (pattern_at patterns e) q

    kept-pattern : (fs : List Forest) → q < length fs → (l : List ℕ) → filter of (kept_by fs l) ≡ kept ends (get_or fs q nobody) (filter of l)
    unfolding kept_by kept
    kept-pattern fs h [] = refl
    kept-pattern fs h (e ∷ l) = go (decide (of e)) (decide (joins fs e)) (kept-pattern (after fs e) (omega (arith, after-length fs e)) l) (kept-pattern fs h l)
      where
        go : Decided (of e) → Decided (joins fs e) → filter of (kept_by (after fs e) l) ≡ kept ends (get_or (after fs e) q nobody) (filter of l)
            → filter of (kept_by fs l) ≡ kept ends (get_or fs q nobody) (filter of l)
            → filter of (kept_by fs (e ∷ l)) ≡ kept ends (get_or fs q nobody) (filter of (e ∷ l))
        go (inl s) (inl j) more rest =
            let w : pattern_at patterns e ≡ q = eqb-true (pattern_at patterns e) q s in
            let c : crosses (label_of (get_or fs q nobody).leader) (ends_at ends e) ≡ true =
            right (get_or fit q false) _ (subst (λ (x : ℕ). get_or fit x false && crosses (label_of (get_or fs x nobody).leader) (ends_at ends e) ≡ true) w j) in
            rw (j, s, c) (ap (λ (r : List ℕ). e ∷ r) (more ∙ ap (λ (f : Forest). kept ends f (filter of l)) (own-after fs e q h w)))
        go (inl s) (inr j) more rest =
            let w : pattern_at patterns e ≡ q = eqb-true (pattern_at patterns e) q s in
            let k : get_or fit q false && crosses (label_of (get_or fs q nobody).leader) (ends_at ends e) ≡ false =
            subst (λ (x : ℕ). get_or fit x false && crosses (label_of (get_or fs x nobody).leader) (ends_at ends e) ≡ false) w j in
            let c : crosses (label_of (get_or fs q nobody).leader) (ends_at ends e) ≡ false = rw fits at k in
            rw (j, s, c) rest
        go (inr s) (inl j) more rest =
            rw (j, s) (more ∙ ap (λ (f : Forest). kept ends f (filter of l)) (other_after fs e q (λ w. clash (eq-eqb (pattern_at patterns e) q w) s)))
        go (inr s) (inr j) more rest = rw (j, s) rest

  -- from the start
  kept-separate : (q : ℕ) → q < patterns_held → get_or fit q false ≡ true → (l : List ℕ)
      → filter (λ e. eqb (pattern_at patterns e) q) (kept_by separate l) ≡ kept ends apart (filter (λ e. eqb (pattern_at patterns e) q) l)
  unfolding separate
  kept-separate q h o l =
      kept-pattern q o (replicate patterns_held apart) (omega (arith, length-replicate patterns_held apart)) l
      ∙ ap (λ (f : Forest). kept ends f (filter (λ e. eqb (pattern_at patterns e) q) l)) (get_or-replicate patterns_held q apart nobody h)

  -- the links that are kept are links of the list, in its order,
  by-sublist : (fs : List Forest) (l : List ℕ) → Sublistᴰ (kept_by fs l) l
  unfolding kept_by
  by-sublist fs [] = Sublistᴰ.slnil
  by-sublist fs (e ∷ l) =
      let more = by-sublist (after fs e) l in
      let rest = by-sublist fs l in
      by-test (joins fs e) (λ c. rw c (Sublistᴰ.cons-cons refl more)) (λ c. rw c (Sublistᴰ.cons rest))

  -- and may be exceptions
  by-fit : (fs : List Forest) (l : List ℕ) (x : ℕ) → x ∈ kept_by fs l → get_or fit (pattern_at patterns x) false ≡ true
  unfolding kept_by
  by-fit fs [] x m = elim m [ ]
  by-fit fs (e ∷ l) x m = go (decide (joins fs e)) (by-fit (after fs e) l x) (by-fit fs l x) m
    where
      go : Decided (joins fs e) → (x ∈ kept_by (after fs e) l → get_or fit (pattern_at patterns x) false ≡ true)
          → (x ∈ kept_by fs l → get_or fit (pattern_at patterns x) false ≡ true) → x ∈ kept_by fs (e ∷ l) → get_or fit (pattern_at patterns x) false ≡ true
      go (inl j) more rest m =
          ⊎_elim (λ (z : x ≡ e). rw z (left (get_or fit (pattern_at patterns e) false) _ j)) more (Memᴰ.cases_cons (rw j at m))
      go (inr j) more rest m = rest (rw j at m)

  -- and each joins two stations
  by-crosses : (fs : List Forest) (l : List ℕ) (x : ℕ) → x ∈ kept_by fs l → crosses identity (ends_at ends x) ≡ true
  unfolding kept_by
  by-crosses fs [] x m = elim m [ ]
  by-crosses fs (e ∷ l) x m = go (decide (joins fs e)) (by-crosses (after fs e) l x) (by-crosses fs l x) m
    where
      go : Decided (joins fs e) → (x ∈ kept_by (after fs e) l → crosses identity (ends_at ends x) ≡ true)
          → (x ∈ kept_by fs l → crosses identity (ends_at ends x) ≡ true) → x ∈ kept_by fs (e ∷ l) → crosses identity (ends_at ends x) ≡ true
      go (inl j) more rest m =
          let own = crosses-apart _ (ends_at ends e) (right (get_or fit (pattern_at patterns e) false) _ j) in
          ⊎_elim (λ (z : x ≡ e). rw z own) more (Memᴰ.cases_cons (rw j at m))
      go (inr j) more rest m = rest (rw j at m)

  -- ---- the loop: what is collected at each turn is what is kept of the whole

  -- the first n links of an array, and those kept of l from place k on
  unfoldable pub gathered : List ℕ → List Forest → List ℕ → ℕ → ℕ → List ℕ
  gathered l fs link n k = take n link ++ kept_by fs (drop k l)

  pub gather-start : (l : List ℕ) (fs : List Forest) (link : List ℕ) → gathered l fs link 0 0 ≡ kept_by fs l
  unfolding gathered
  gather-start l fs link = refl

  module _ (l : List ℕ) (fs : List Forest) (link w : List ℕ) (n k : ℕ) (i : gathered l fs link n k ≡ w) where
    pub gather-taken : k < length l → n < length link → joins fs (get_or l k 0) ≡ true
        → gathered l (after fs (get_or l k 0)) (set link n (get_or l k 0)) (n + 1) (k + 1) ≡ w
    unfolding gathered kept_by
    gather-taken h m e = rw (add-one n, add-one k, take-suc-set link n (get_or l k 0) m, append_snoc) (rw (drop-cons l k 0 h, e) at i)

    pub gather-left : k < length l → joins fs (get_or l k 0) ≡ false → gathered l fs link n (k + 1) ≡ w
    unfolding gathered kept_by
    gather-left h e = rw (add-one k) (rw (drop-cons l k 0 h, e) at i)

    pub gather-end : length l ≤ k → take n link ≡ w
    unfolding gathered kept_by
    gather-end h = sym (append-nil (take n link)) ∙ rw (drop_of_length-le l h) at i

-- ---- of a list of links

-- the exceptions that are kept
unfoldable pub kept_exceptions : List ℕ → List ℕ → List ℕ → List ℕ → List ℕ
kept_exceptions ends patterns ks l = kept_by ends patterns (fit_of ks) separate l

pub kept_whole : (ends patterns ks l : List ℕ) (fit : List Bool) (alone : Forest) → fit ≡ fit_of ks → alone ≡ apart
    → kept_by ends patterns fit (replicate patterns_held alone) l ≡ kept_exceptions ends patterns ks l
unfolding kept_exceptions separate
kept_whole ends patterns ks l fit alone e f = rw (e, f)

-- the two ends of an exception that is kept are different stations
pub exceptions-cross : (ends patterns ks l : List ℕ) (x : ℕ) → x ∈ kept_exceptions ends patterns ks l → crosses identity (ends_at ends x) ≡ true
unfolding kept_exceptions
exceptions-cross ends patterns ks l x i = by-crosses ends patterns (fit_of ks) separate l x i

-- links that are above some bound, and may be in a tree all the same
pub record Exceptions (ks patterns l : List ℕ) : Type 0 where
  pub above : (x : ℕ) → x ∈ l → marked (pattern_at patterns x) ≡ true
  pub alone : (x : ℕ) → x ∈ l → admitted ks patterns (x ∷ []) ≡ true

module _ (m : ℕ) (ks patterns : List ℕ) (P : Patterned m ks patterns) where
  -- there is room for a pattern of each kind
  pub pattern-known : (e : ℕ) → e < m → pattern_at patterns e < patterns_held
  pattern-known e h = omega (arith, P.digits e h, pow-le-pow_right {n = 2} (omega arith) P.few)

  -- there are none where no rank is above 1
  pub no-exceptions : slack_of ks ≡ 0 → (l : List ℕ) → ((x : ℕ) → x ∈ l → x < m) → Exceptions ks patterns l → length l ≡ 0
  unfolding admitted
  no-exceptions none [] below E = refl
  no-exceptions none (x ∷ l) below E =
      let p = pattern_at patterns x in
      let one : count marked (p ∷ []) ≡ 1 = rw (E.above x (here refl)) in
      let few = admits-few ks (p ∷ [])
      (λ q i. let e : q ≡ p = Memᴰ.eq_of_singleton i in rw e (P.digits x (below x (here refl)))) (E.alone x (here refl)) in
      absurd (omega arith)

module _ (m : ℕ) (ends ks patterns l : List ℕ) (P : Patterned m ks patterns) where
  pub exceptions-sublist : Sublistᴰ (kept_exceptions ends patterns ks l) l
  unfolding kept_exceptions
  exceptions-sublist = by-sublist ends patterns (fit_of ks) separate l

  module _ (below : (x : ℕ) → x ∈ l → x < m) where
    fit : (x : ℕ) → x ∈ kept_exceptions ends patterns ks l → marked (pattern_at patterns x) && admits ks (pattern_at patterns x ∷ []) ≡ true
    unfolding kept_exceptions
    fit x i =
        let known = pattern-known m ks patterns P x (below x (sublist-⊆ (by-sublist ends patterns (fit_of ks) separate l) x i)) in
        sym (fit_at ks (pattern_at patterns x) known) ∙ by-fit ends patterns (fit_of ks) separate l x i

    pub kept-exceptions : Exceptions ks patterns (kept_exceptions ends patterns ks l)
    unfolding admitted
    kept-exceptions =
        record {
          above = λ x i. left (marked (pattern_at patterns x)) _ (fit x i);
          alone = λ x i. right (marked (pattern_at patterns x)) (admits ks (pattern_at patterns x ∷ [])) (fit x i);
        }

  -- of a pattern that may be excepted, those that Kruskal's method keeps of its links
  pub exceptions-of : (q : ℕ) → q < patterns_held → marked q && admits ks (q ∷ []) ≡ true
      → filter (λ e. eqb (pattern_at patterns e) q) (kept_exceptions ends patterns ks l) ≡ kept ends apart (filter (λ e. eqb (pattern_at patterns e) q) l)
  unfolding kept_exceptions
  exceptions-of q h e = kept-separate ends patterns (fit_of ks) q h (fit_at ks q h ∙ e) l
