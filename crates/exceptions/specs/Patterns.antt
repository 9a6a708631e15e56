-- The patterns of links as a program has them: a number for each link, made from the costs and the bounds digit by digit. Over any number of ceilings.
use Prim.Native.Nat.{ℕ, suc, ◌+◌, ◌-◌, ◌*◌, ◌^◌, ◌≤◌, ◌<◌}
use Rattle.std.specs.Prelude.{Bool, ◌≡◌, refl, eqb, ℤ, pos, drop, get_or, replicate, set, take}
use mathlib.Core.List.{List, [], ◌∷◌, map}
use Rattle.std.proofs.Math.Path.{sym, ap}
use Rattle.std.proofs.Common.{◌∙◌, le_refl, pow-suc, drop_of_length-le, length-set, drop-drop, drop-set-lt, get_or-drop, take_all}
use Rattle.std.proofs.Math.Nat.{pow-le-pow_right, suc_inj}
use native.Mathlib.Omega.{arith}
use Rattle.std.proofs.Math.ListN.{get_or-replicate, length, length-drop, length-replicate}
use Rattle.std.proofs.Math.Seq.{drop-cons}
use Rattle.order.specs.Test.{by-test}
use Rattle.order.specs.Lists.{◌∈◌}
use Rattle.order.specs.Order.{orderℤ}
use Rattle.kmax.specs.KMax.{above}
use Rattle.kmax.specs.Ceilings.{ceilings}
use Rattle.kmax.specs.Digits.{admits, flag, pattern}
use Rattle.network.specs.Capacities.{ceilings_held}
use Rattle.network.specs.Tabulate.{tabulate}
use Rattle.network.proofs.Tabulate.{tabulate-at, tabulate-length, tabulate-none, tabulate-turn}
use Rattle.network.specs.Yard.{ceiling_part, cost_at}

-- the pattern of link e
abbrev pub pattern_at : List ℕ → ℕ → ℕ
pattern_at patterns e = get_or patterns e 0

-- a normal link is above no bound
unfoldable pub normal : List ℕ → ℕ → Bool
normal patterns e = eqb (pattern_at patterns e) 0

-- a set of links is admitted if for each ceiling fewer than its rank are above its bound
unfoldable pub admitted : List ℕ → List ℕ → List ℕ → Bool
admitted ks patterns X = admits ks (map (pattern_at patterns) X)

-- a pattern for each of m links, with a digit for each of the ranks, and no rank is 0
pub record Patterned (m : ℕ) (ks patterns : List ℕ) : Type 0 where
  pub size : length patterns ≡ m
  pub few : length ks ≤ ceilings_held
  pub digits : (e : ℕ) → e < m → pattern_at patterns e < 2 ^ length ks
  pub positive : (k : ℕ) → k ∈ ks → 0 < k

-- ---- from costs and bounds

-- the pattern of link e with a digit more in front, by a ceiling's column of costs and the bound b
abbrev digit_before : List ℤ → ℤ → List ℕ → ℕ → ℕ
digit_before column b rest e = flag (above orderℤ b (cost_at column e)) + 2 * pattern_at rest e

-- all patterns with that digit more
unfoldable pub with_digit : List ℤ → ℤ → List ℕ → List ℕ
with_digit column b rest = tabulate (digit_before column b rest) (length rest)

-- the patterns of m links by the ceilings i, i + 1, .. with the bounds bs
unfoldable pub patterns_by : ℕ → List ℤ → ℕ → List ℤ → List ℕ
patterns_by m costs i [] = replicate m 0
patterns_by m costs i (b ∷ bs) = with_digit (ceiling_part m costs i) b (patterns_by m costs (suc i) bs)

-- by all ceilings
abbrev pub patterns_of : ℕ → List ℤ → List ℤ → List ℕ
patterns_of m costs bs = patterns_by m costs 0 bs

-- each pattern has room for one digit more
pub record Room (patterns : List ℕ) : Type 0 where
  pub small : (e : ℕ) → e < length patterns → pattern_at patterns e < 128

-- ---- the loop over the links, which adds a digit

-- what stands after the first e turns: the digits added to the first e patterns, and the others as they were
pub record Added (column : List ℤ) (b : ℤ) (rest patterns : List ℕ) (e : ℕ) : Type 0 where
  pub size : length patterns ≡ length rest
  pub done : take e patterns ≡ tabulate (digit_before column b rest) e
  pub left : drop e patterns ≡ drop e rest

module _ (column : List ℤ) (b : ℤ) (rest : List ℕ) where
  pub added_none : Added column b rest rest 0
  added_none = record { size = refl; done = sym (tabulate-none _); left = refl }

  -- the pattern in turn is as it was
  pub added_next : (e : ℕ) {patterns : List ℕ} → e < length rest → Added column b rest patterns e → pattern_at patterns e ≡ pattern_at rest e
  added_next e {patterns} h a =
      let e0 : e + 0 ≡ e = omega arith in
      let at : (l : List ℕ) → get_or (drop e l) 0 0 ≡ get_or l e 0 = λ l. get_or-drop e l 0 0 ∙ ap (λ (i : ℕ). get_or l i 0) e0 in
      sym (at patterns) ∙ ap (λ (l : List ℕ). get_or l 0 0) a.left ∙ at rest

  pub added-turn : (e x : ℕ) {patterns : List ℕ} → e < length rest → Added column b rest patterns e → x ≡ flag (above orderℤ b (cost_at column e))
      → Added column b rest (set patterns e (x + 2 * pattern_at patterns e)) (e + 1)
  added-turn e x {patterns} h a q =
      let size = a.size in
      record {
        size = length-set patterns e _ ∙ a.size;
        done = tabulate-turn (digit_before column b rest) patterns e _ (omega arith) a.done (rw (q, added_next e h a));
        left = drop-set-lt (e + 1) patterns e _ (omega arith)
            ∙ sym (drop-drop 1 e patterns) ∙ ap (drop 1) a.left ∙ drop-drop 1 e rest;
      }

  pub added-all : (e : ℕ) {patterns : List ℕ} → e ≡ length rest → Added column b rest patterns e → patterns ≡ with_digit column b rest
  unfolding with_digit
  added-all e {patterns} q a =
      let size = a.size in
      sym (take_all e patterns (omega arith)) ∙ a.done ∙ ap (tabulate (digit_before column b rest)) q

-- ---- what they are

module _ (m : ℕ) (costs : List ℤ) where
  pub patterns-size : (i : ℕ) (bs : List ℤ) → length (patterns_by m costs i bs) ≡ m
  unfolding patterns_by with_digit
  patterns-size i [] = length-replicate {A = ℕ} m 0
  patterns-size i (b ∷ bs) = tabulate-length _ (length (patterns_by m costs (suc i) bs)) ∙ patterns-size (suc i) bs

  digit_at : (i : ℕ) (b : ℤ) (bs : List ℤ) (e : ℕ) → e < m
      → pattern_at (patterns_by m costs i (b ∷ bs)) e ≡ digit_before (ceiling_part m costs i) b (patterns_by m costs (suc i) bs) e
  unfolding patterns_by with_digit
  digit_at i b bs e h = tabulate-at _ (length (patterns_by m costs (suc i) bs)) e (omega (arith, patterns-size (suc i) bs)) 0

  none-at : (i e : ℕ) → e < m → pattern_at (patterns_by m costs i []) e ≡ 0
  unfolding patterns_by
  none-at i e h = get_or-replicate {A = ℕ} m e 0 0 h

  -- the pattern of a link is that of the theory's ceilings, whatever their ranks
  pub patterns-at : (i : ℕ) (ks : List ℕ) (bs : List ℤ) → length bs ≡ length ks → (e : ℕ) → e < m
      → pattern_at (patterns_by m costs i bs) e ≡ pattern orderℤ (ceilings (λ j. cost_at (ceiling_part m costs j)) i ks bs) e
  unfolding pattern
  patterns-at i [] [] l e h = none-at i e h
  patterns-at i [] (b ∷ bs) l e h = absurd (omega arith)
  patterns-at i (k ∷ ks) [] l e h = absurd (omega arith)
  patterns-at i (k ∷ ks) (b ∷ bs) l e h =
      digit_at i b bs e h
      ∙ ap (λ (p : ℕ). flag (above orderℤ b (cost_at (ceiling_part m costs i) e)) + 2 * p) (patterns-at (suc i) ks bs (suc_inj l) e h)

  -- there are as many digits as bounds
  pub patterns-below : (i : ℕ) (bs : List ℤ) (e : ℕ) → e < m → pattern_at (patterns_by m costs i bs) e < 2 ^ length bs
  patterns-below i [] e h = rw (none-at i e h) (omega arith)
  patterns-below i (b ∷ bs) e h =
      let rest = patterns-below (suc i) bs e h in
      let twice = pow-suc 2 (length bs) in
      rw (digit_at i b bs e h)
      (by-test (above orderℤ b (cost_at (ceiling_part m costs i) e)) (λ k. rw k (omega arith)) (λ k. rw k (omega arith)))

  -- ---- the loop from the last ceiling to the first

  -- the patterns by the ceilings from i on
  unfoldable pub patterns_from : List ℤ → ℕ → List ℕ
  patterns_from bs i = patterns_by m costs i (drop i bs)

  module _ (bs : List ℤ) where
    pub from_start : (patterns : List ℕ) → patterns ≡ replicate m 0 → patterns ≡ patterns_from bs (length bs)
    unfolding patterns_from patterns_by
    from_start patterns e = rw (drop_of_length-le bs (le_refl (length bs))) e

    -- one ceiling more: j, in front of those from i on
    pub from-turn : (i j from to : ℕ) {patterns more : List ℕ} → i ≡ j + 1 → i ≤ length bs → from ≡ j * m → to ≡ from + m → patterns ≡ patterns_from bs i
        → more ≡ with_digit (take (to - from) (drop from costs)) (get_or bs j (pos 0)) patterns → more ≡ patterns_from bs j
    unfolding patterns_from patterns_by
    from-turn i j from to n h f g e q =
        let next : i ≡ suc j = omega arith in
        let size : j * m + m - j * m ≡ m = omega arith in
        rw (q, e, next, drop-cons bs j (pos 0) (omega arith), g, f, size)

    pub from_end : (patterns : List ℕ) → patterns ≡ patterns_from bs 0 → patterns ≡ patterns_of m costs bs
    unfolding patterns_from
    from_end patterns e = e

    pub from-size : (i : ℕ) {patterns : List ℕ} → patterns ≡ patterns_from bs i → length patterns ≡ m
    unfolding patterns_from
    from-size i e = rw e (patterns-size i (drop i bs))

    pub from-room : (i : ℕ) {patterns : List ℕ} → length bs ≤ ceilings_held → patterns ≡ patterns_from bs i → Room patterns
    unfolding patterns_from
    from-room i few e =
        rw e (record {
          small = λ x h.
              let short : length (drop i bs) ≤ ceilings_held = omega (arith, length-drop i bs) in
              let inside : x < m = omega (arith, patterns-size i (drop i bs)) in
              omega (arith, patterns-below i (drop i bs) x inside, pow-le-pow_right {n = 2} (omega arith) short);
        })
