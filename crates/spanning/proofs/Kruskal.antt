-- Kruskal's greedy method, from any labelling: walk the candidate edges in the given order, and keep each that crosses what those kept
-- before it leave. It finds a tree if there is one (kruskal-tree), of least total weight if the candidates come in rising
-- weight (kruskal-least).
use Rattle.std.proofs.Math.Bool.{false}
use Rattle.std.specs.Prelude.{◌⊎◌, ◌≡◌, ℕ, ◌≤◌}
use mathlib.Core.List.Memᴰ
use mathlib.Core.List.Memᴰ.{head as here}
use mathlib.Core.List.Memᴰ.{tail as there}
use mathlib.Core.List.{List, [], ◌∷◌, map}
use Rattle.std.proofs.Common.{inl, inr, sym, ap, subst, le_of_eq, arith, leb-true}
use Rattle.std.proofs.Math.Path.{refl}
use Rattle.order.specs.Test.{by-test}
use Rattle.order.specs.Lists.{◌∈◌, ◌⊆◌}
use Rattle.order.proofs.Lists.{map-⊆}
use Rattle.order.specs.Perm.{Perm, perm-cons, perm-nil, perm-trans, sum}
use Rattle.order.proofs.Perm.{perm-sym, perm-⊆, sum-perm}
use Rattle.order.specs.Order.{orderℕ}
use Rattle.order.specs.Sorted.{Sorted}
use Rattle.spanning.specs.Labelling.{Crosses, Edge, Labelling, Same, ◌≈◌, ◌⊑◌, crosses}
use Rattle.spanning.proofs.Labelling.{Crosses-≈, Crosses→crosses, crosses-false, crosses→Crosses}
use Rattle.spanning.specs.Labelling.{merge}
use Rattle.spanning.proofs.Labelling.{merge-joins, merge-least, merge-≈, merge-⊑, same-crosses, same-equivalence}
use Rattle.spanning.specs.Tree.{Forest, OneComponent, TreeFrom, merge_all}
use Rattle.spanning.proofs.Tree.{OneComponent-⊑, forest-crosses, merge_all-⊑}
use Rattle.spanning.specs.Tree.{Exchange, rest}
use Rattle.spanning.proofs.Tree.{exchange, exchange-perm}
use Rattle.spanning.specs.Kruskal.{EndsWithin, Greedy, NoHeavier, done, keep, kruskal, skip}

sum-no-heavier : (w : ℕ → ℕ) (xs ys : List ℕ) → NoHeavier w xs ys → sum w xs ≤ sum w ys
sum-no-heavier w [] [] h = omega arith
sum-no-heavier w [] (y ∷ ys) h = absurd h
sum-no-heavier w (x ∷ xs) [] h = absurd h
sum-no-heavier w (x ∷ xs) (y ∷ ys) h = let one = h.0 in let others = sum-no-heavier w xs ys h.1 in omega arith

-- edges go by their numbers: `ends` says which vertices an edge joins
module _ (ends : ℕ → Edge) where
  pub kruskal-greedy : (L : Labelling) (cs : List ℕ) → Greedy ends L cs (kruskal ends L cs)
  unfolding kruskal
  kruskal-greedy L [] = done
  kruskal-greedy L (c ∷ cs) =
      by-test (crosses L (ends c))
      (λ p. rw p (keep (crosses→Crosses L (ends c) p) (kruskal-greedy (merge L (ends c)) cs)))
      (λ p. rw p (skip (crosses-false L (ends c) p) (kruskal-greedy L cs)))

  pub greedy-kruskal : {L : Labelling} {cs ks : List ℕ} → Greedy ends L cs ks → ks ≡ kruskal ends L cs
  unfolding kruskal
  greedy-kruskal done = refl
  greedy-kruskal (keep {L = L} {c = c} k g) = rw (Crosses→crosses L (ends c) k) (ap {B = List ℕ} (λ l. c ∷ l) (greedy-kruskal g))
  greedy-kruskal (skip {L = L} {c = c} s g) = rw (same-crosses L (ends c) s) (greedy-kruskal g)

  -- it depends on what L joins alone, and goes on from where it stopped
  greedy-≈ : {L M : Labelling} {cs ks : List ℕ} → L ≈ M → Greedy ends L cs ks → Greedy ends M cs ks
  greedy-≈ h done = done
  greedy-≈ h (keep {c = c} k g) = keep (Crosses-≈ (ends c) h k) (greedy-≈ (merge-≈ (ends c) h) g)
  greedy-≈ h (skip {c = c} s g) = skip (h.0 (ends c).a (ends c).b s) (greedy-≈ h g)

  -- what is rejected from a finer labelling is rejected from a coarser one: what a first run keeps will do for every later one
  pub kruskal-again : {M L : Labelling} (cs : List ℕ) → M ⊑ L → kruskal ends L (kruskal ends M cs) ≡ kruskal ends L cs
  unfolding kruskal
  kruskal-again [] h = refl
  kruskal-again {M} {L} (c ∷ cs) h =
      by-test (crosses M (ends c))
      (λ e. by-test (crosses L (ends c))
      (λ f. rw (e, f) (ap {B = List ℕ} (λ l. c ∷ l) (kruskal-again {M = merge M (ends c)} {L = merge L (ends c)} cs (merge-⊑ (ends c) h))))
      (λ f. rw (e, f) (kruskal-again {M = merge M (ends c)} {L = L} cs (merge-least M (ends c) (same-equivalence L) h (crosses-false L (ends c) f)))))
      (λ e. let f : crosses L (ends c) ≡ false = same-crosses L (ends c) (h (ends c).a (ends c).b (crosses-false M (ends c) e)) in
      rw (e, f) (kruskal-again {M = M} {L = L} cs h))

  pub greedy-⊆ : {L : Labelling} {cs ks : List ℕ} → Greedy ends L cs ks → ks ⊆ cs
  greedy-⊆ done x m = m
  greedy-⊆ (keep {c = c} {cs = cs} {ks = ks} k g) x m = go (greedy-⊆ g x) (Memᴰ.cases_cons m)
    where
      go : (x ∈ ks → x ∈ cs) → (x ≡ c) ⊎ (x ∈ ks) → x ∈ c ∷ cs
      go below (inl p) = here p
      go below (inr h) = there (below h)
  greedy-⊆ (skip s g) x m = there (greedy-⊆ g x m)

  pub greedy-forest : {L : Labelling} {cs ks : List ℕ} → Greedy ends L cs ks → Forest L (map ends ks)
  greedy-forest done = tt
  greedy-forest (keep c g) = (c, greedy-forest g)
  greedy-forest (skip s g) = greedy-forest g

  -- what is kept joins all that the candidates join
  pub greedy-joins : {L : Labelling} {cs ks : List ℕ} → Greedy ends L cs ks → merge_all L (map ends cs) ⊑ merge_all L (map ends ks)
  greedy-joins done i j s = s
  greedy-joins (keep c g) i j s = greedy-joins g i j s
  greedy-joins (skip {L = L} {c = c} {cs = cs} h g) i j s =
      greedy-joins g i j (merge_all-⊑ (map ends cs) (map ends cs) (merge-least L (ends c) (same-equivalence L) (λ x y p. p) h) (λ e m. m) i j s)

  -- it is a tree, if the candidates join all vertices; and so if some tree has all its edges among them
  pub greedy-complete : {vs : List ℕ} {L : Labelling} {cs ks : List ℕ} → Greedy ends L cs ks → OneComponent vs (merge_all L (map ends cs))
      → TreeFrom vs L (map ends ks)
  greedy-complete g one = record { forest = greedy-forest g; spans = OneComponent-⊑ (greedy-joins g) one }

  pub greedy-tree : {vs : List ℕ} {L : Labelling} {cs ks : List ℕ} → Greedy ends L cs ks → (ts : List ℕ) → ts ⊆ cs → TreeFrom vs L (map ends ts)
      → TreeFrom vs L (map ends ks)
  greedy-tree {cs = cs} g ts sub t =
      greedy-complete g (OneComponent-⊑ (merge_all-⊑ (map ends ts) (map ends cs) (λ i j s. s) (map-⊆ ends ts cs sub)) t.spans)

  -- an edge whose ends are joined already is in no tree
  without : {vs : List ℕ} {L : Labelling} {c : ℕ} {cs : List ℕ} → Same L (ends c).a (ends c).b → (ts : List ℕ) → ts ⊆ c ∷ cs → TreeFrom vs L (map ends ts)
      → ts ⊆ cs
  without {L = L} {c} {cs} s ts sub t x m = go (Memᴰ.cases_cons (sub x m))
    where
      go : (x ≡ c) ⊎ (x ∈ cs) → x ∈ cs
      go (inl p) =
          absurd (forest-crosses L (ends x) (Memᴰ.map ends m) t.forest
          (subst (λ (y : ℕ). Same L (ends y).a (ends y).b) (sym p) s))
      go (inr k) = k

  module _ (vs : List ℕ) (w : ℕ → ℕ) where
    -- one step: a tree from L, of which every edge is c or one of cs, and a c that crosses L
    step : {L : Labelling} {c : ℕ} {cs : List ℕ} → Crosses L (ends c) → EndsWithin ends vs (c ∷ cs) → (ts : List ℕ) → ts ⊆ c ∷ cs → TreeFrom vs L (map ends ts)
        → (x : Exchange ends vs L (ends c) ts) × (rest x ⊆ cs) × (x.out ∈ c ∷ cs)
    step {L} {c} {cs} k within ts sub t = (x, without (merge-joins L (ends c)) (rest x) (λ y m. back y (there m)) x.tree, back x.out (here refl))
      where
        x : Exchange ends vs L (ends c) ts
        x = exchange ends vs L (ends c) (within c (here refl)) k ts t

        back : x.out ∷ rest x ⊆ c ∷ cs
        back y m = sub y (perm-⊆ (perm-sym (exchange-perm x)) y m)

    -- the edges of the tree can be set beside those kept, such that no kept edge is the heavier of the two
    pub greedy-no-heavier : {L : Labelling} {cs ks : List ℕ} → Greedy ends L cs ks → Sorted orderℕ w cs → EndsWithin ends vs cs
        → (ts : List ℕ) → ts ⊆ cs → TreeFrom vs L (map ends ts) → (us : List ℕ) × Perm ts us × NoHeavier w ks us
    greedy-no-heavier done sorted within [] sub t = ([], perm-nil, tt)
    greedy-no-heavier done sorted within (t ∷ ts) sub r = elim (sub t (here refl)) [ ]
    greedy-no-heavier (keep {c = c} {cs = cs} k g) sorted within ts sub t =
        let x = step k within ts sub t in
        let below = greedy-no-heavier g sorted.1 (λ d m. within d (there m)) (rest x.0) x.1 x.0.tree in
        (x.0.out ∷ below.0, perm-trans (exchange-perm x.0) (perm-cons below.1), (go x.0.out (Memᴰ.cases_cons x.2), below.2))
      where
        go : (d : ℕ) → (d ≡ c) ⊎ (d ∈ cs) → w c ≤ w d
        go d (inl p) = le_of_eq (ap w (sym p))
        go d (inr m) = leb-true (w c) (w d) (sorted.0 d m)
    greedy-no-heavier (skip s g) sorted within ts sub t =
        greedy-no-heavier g sorted.1 (λ d m. within d (there m)) ts (without s ts sub t) t

    -- so the weight is least
    pub greedy-least : {L : Labelling} {cs ks : List ℕ} → Greedy ends L cs ks → Sorted orderℕ w cs → EndsWithin ends vs cs
        → (ts : List ℕ) → ts ⊆ cs → TreeFrom vs L (map ends ts) → sum w ks ≤ sum w ts
    greedy-least {ks = ks} g sorted within ts sub t =
        let m = greedy-no-heavier g sorted within ts sub t in
        rw (sum-perm w m.1) (sum-no-heavier w ks m.0 m.2)

-- the same of kruskal. The trees that it is compared with are lists of candidates, in any order
module _ (ends : ℕ → Edge) (vs : List ℕ) (L : Labelling) (cs : List ℕ) where
  -- it finds a tree where there is one
  pub kruskal-tree : (ts : List ℕ) → ts ⊆ cs → TreeFrom vs L (map ends ts) → TreeFrom vs L (map ends (kruskal ends L cs))
  kruskal-tree = greedy-tree ends (kruskal-greedy ends L cs)

  -- so its weight is least
  pub kruskal-least : (w : ℕ → ℕ) → Sorted orderℕ w cs → EndsWithin ends vs cs → (ts : List ℕ) → ts ⊆ cs → TreeFrom vs L (map ends ts)
      → sum w (kruskal ends L cs) ≤ sum w ts
  kruskal-least w = greedy-least ends vs w (kruskal-greedy ends L cs)
