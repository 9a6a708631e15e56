-- Ceilings on the k-max costs of a set of edges. A tree fits where, for each ceiling, fewer than k of its edges exceed it:
-- so only its exceptional edges decide, and they are few. For any number of ceilings and any k.
use Rattle.std.specs.Prelude.{true, false, List, [], ◌∷◌, map, ◌↔◌, ◌≡◌, refl, ℕ, suc, ◌≤◌, ◌<◌, length}
use mathlib.Core.List.Memᴰ
use mathlib.Core.List.Memᴰ.{head as here}
use mathlib.Core.List.Memᴰ.{tail as there}
use Rattle.std.proofs.Common.{⊎_elim, sym, ◌∙◌, arith, ltb-true, lt-ltb}
use Rattle.std.proofs.lemmas.List.{length-map}
use Rattle.order.proofs.Test.{test_iff}
use Rattle.order.specs.Lists.{◌∈◌, count, filter}
use Rattle.order.proofs.Lists.{all-ext, all-mem, count-filter, count_map, count_none, count-or, length-filter, mem-any}
use Rattle.order.specs.Order.{TotalOrder}
use Rattle.kmax.specs.KMax.{above, count_above}
use Rattle.kmax.proofs.KMax.{kmax-le}
use Rattle.kmax.specs.Ceilings.{Ceiling, Ranked, admissible, ceiling_cost, ceilings, exceeds, exceptional, meets, slack, slack_of}

-- ---- a tree fits where its exceptional edges are admissible

module _ {C : Type 0} (O : TotalOrder C) (d : C) where
  -- one ceiling: its k-max cost, and the number of edges that exceed it
  ceiling-count : (c : Ceiling C) (ts : List ℕ) → 0 < c.rank → c.rank ≤ length ts
      → (O.le (ceiling_cost O c d ts) c.bound ≡ true) ↔ (count_above O c.bound (map c.cost ts) < c.rank)
  ceiling-count c ts h l = kmax-le O c.rank (map c.cost ts) d c.bound h (omega (arith, length-map ts c.cost))

  -- the exceptional edges are all that counts
  exceptions-count : (cs : List (Ceiling C)) (c : Ceiling C) → c ∈ cs → (ts : List ℕ)
      → count_above O c.bound (map c.cost (filter (exceptional O cs) ts)) ≡ count_above O c.bound (map c.cost ts)
  exceptions-count cs c m ts =
      count_map (above O c.bound) c.cost (filter (exceptional O cs) ts)
      ∙ count-filter (exceeds O c) (exceptional O cs) (λ e h. mem-any (λ c. exceeds O c e) m h) ts
      ∙ sym (count_map (above O c.bound) c.cost ts)

  -- a tree fits where fewer than `rank` of its edges exceed each ceiling
  meets-counted : (cs : List (Ceiling C)) (ts : List ℕ) → Ranked cs (length ts) → meets O cs d ts ≡ admissible O cs ts
  meets-counted cs ts R =
      all-ext _ _ cs (λ c m. let r = ceiling-count c ts (R c m).0 (R c m).1 in
      test_iff _ _ (λ e. lt-ltb _ _ (r.0 e), λ e. r.1 (ltb-true _ _ e)))

  pub meets-admissible : (cs : List (Ceiling C)) (ts : List ℕ) → Ranked cs (length ts) → meets O cs d ts ≡ admissible O cs (filter (exceptional O cs) ts)
  meets-admissible cs ts R = meets-counted cs ts R ∙ all-ext _ _ cs (λ c m. rw (exceptions-count cs c m ts))

  -- two trees of which as many edges exceed each ceiling fit alike
  pub meets-alike : (cs : List (Ceiling C)) (ts us : List ℕ) → Ranked cs (length ts) → Ranked cs (length us)
      → ((c : Ceiling C) → c ∈ cs → count (exceeds O c) us ≡ count (exceeds O c) ts) → meets O cs d us ≡ meets O cs d ts
  meets-alike cs ts us R Q h =
      meets-counted cs us Q
      ∙ all-ext _ _ cs (λ c m. rw (count_map (above O c.bound) c.cost us, count_map (above O c.bound) c.cost ts, h c m))
      ∙ sym (meets-counted cs ts R)

  -- ---- a tree that fits has few exceptional edges

  few : (cs : List (Ceiling C)) (ts : List ℕ) → ((c : Ceiling C) → c ∈ cs → count (exceeds O c) ts < c.rank) → count (exceptional O cs) ts ≤ slack cs
  few [] ts h = omega (arith, count_none (λ e. false) ts (λ e m. refl))
  few (c ∷ cs) ts h =
      omega (arith, count-or (exceeds O c) (exceptional O cs) ts, h c (here refl), few cs ts (λ c m. h c (there m)))

  pub meets-few : (cs : List (Ceiling C)) (ts : List ℕ) → Ranked cs (length ts) → meets O cs d ts ≡ true → length (filter (exceptional O cs) ts) ≤ slack cs
  meets-few cs ts R f =
      rw (length-filter (exceptional O cs) ts)
      (few cs ts (λ c m. rw (← count_map (above O c.bound) c.cost ts) ((ceiling-count c ts (R c m).0 (R c m).1).0 (all-mem _ cs f c m))))

-- ---- ceilings made from lists of ranks and bounds

module _ {C : Type 0} (cost : ℕ → ℕ → C) where
  pub ceilings-ranked : (n i : ℕ) (ks : List ℕ) (bs : List C) → ((k : ℕ) → k ∈ ks → (0 < k) × (k ≤ n)) → Ranked (ceilings cost i ks bs) n
  ceilings-ranked n i [] bs h c m = elim m [ ]
  ceilings-ranked n i (k ∷ ks) [] h c m = elim m [ ]
  ceilings-ranked n i (k ∷ ks) (b ∷ bs) h c m =
      ⊎_elim
      (λ (q : c ≡ record { rank = k; bound = b; cost = cost i }). rw q (h k (here refl)))
      (λ j. ceilings-ranked n (suc i) ks bs (λ l o. h l (there o)) c j)
      (Memᴰ.cases_cons m)

  pub ceilings-slack : (i : ℕ) (ks : List ℕ) (bs : List C) → slack (ceilings cost i ks bs) ≤ slack_of ks
  ceilings-slack i [] bs = omega arith
  ceilings-slack i (k ∷ ks) [] = omega arith
  ceilings-slack i (k ∷ ks) (b ∷ bs) = omega (arith, ceilings-slack (suc i) ks bs)
