-- The best spanning tree with given edges X in it: X and what Kruskal's method adds to X from candidates in order of cost, then number. Of all
-- spanning trees made of X and candidates it has least cost, and of these it is the first in dictionary order (best-tree).
use Rattle.std.specs.Prelude.{Bool, true, List, [], ◌∷◌, map, ◌++◌, ◌↔◌, ◌≡◌, ℕ, ◌-◌, ◌≤◌, ◌<◌, length}
use mathlib.Core.List.Memᴰ
use Rattle.std.proofs.lemmas.List.{map-append, length-map}
use Rattle.std.proofs.Common.{⊎_elim, sym, ◌∙◌, subst, arith, le-leb}
use Rattle.std.proofs.Math.Path.{subst⁻¹}
use Rattle.order.specs.Lists.{◌∈◌, ◌⊆◌}
use Rattle.order.proofs.Lists.{map-mem}
use Rattle.order.specs.Perm.{Perm, sum}
use Rattle.order.proofs.Perm.{perm-length, perm-map, sum-append, sum-perm}
use Rattle.order.specs.Order.{orderℕ, pairs}
use Rattle.order.specs.Sorted.{Apart, Sorted, ascending, sort}
use Rattle.order.proofs.Sorted.{sort-cong, sort-mem, sort-perm, sort-rising}
use Rattle.order.specs.Least.{ranked}
use Rattle.spanning.specs.Labelling.{Edge, Labelling, Same, merge}
use Rattle.spanning.proofs.Labelling.{merge-joins}
use Rattle.spanning.specs.Tree.{AllWithin, Forest, SpanningTree, TreeFrom, Within, identity, merge_all}
use Rattle.spanning.proofs.Tree.{forest-append, forest-crosses, tree-append, tree-perm}
use Rattle.spanning.proofs.Size.{spanning-length}
use Rattle.spanning.specs.Kruskal.{EndsWithin}
use Rattle.spanning.proofs.Kruskal.{greedy-forest, greedy-⊆, kruskal-greedy, kruskal-least, kruskal-tree}
use Rattle.spanning.proofs.Count.{forest-spans}
use Rattle.spanning.specs.Rising.{RisingIn}
use Rattle.spanning.proofs.Rising.{in-rising, rising-range}
use Rattle.spanning.specs.Ties.{tie_weight}
use Rattle.spanning.proofs.Ties.{tie-edges, tie-lists}
use Rattle.spanning.specs.Best.{Usable, added, by_cost, tree_key, tree_order, whole}

-- no edge number stands twice in a forest, so it can be written in rising order
pub forest-apart : (ends : ℕ → Edge) (L : Labelling) (ts : List ℕ) → Forest L (map ends ts) → Apart (λ x. x) ts
forest-apart ends L [] f = tt
forest-apart ends L (t ∷ ts) f = (λ u m p. twice u m p, forest-apart ends (merge L (ends t)) ts f.1)
  where
    twice : (u : ℕ) → u ∈ ts → u ≡ t → ⊥
    twice u m p =
        forest-crosses (merge L (ends t)) (ends u) (Memᴰ.map ends m) f.1
        (subst (λ (v : ℕ). Same (merge L (ends t)) (ends v).a (ends v).b) (sym p) (merge-joins L (ends t)))

pub ascending-rising : (m : ℕ) (ts : List ℕ) → Apart (λ x. x) ts → ((t : ℕ) → t ∈ ts → t < m) → RisingIn 0 m (ascending ts)
ascending-rising m ts p h =
    in-rising 0 m (ascending ts) (λ x k. (omega arith, h x (sort-mem orderℕ (λ x. x) ts k))) (sort-rising orderℕ (λ x. x) ts p)

-- to sort by cost, then number, is to sort by tie weight
pub by_cost-weight : (s : ℕ → ℕ) (m : ℕ) (cs : List ℕ) → ((c : ℕ) → c ∈ cs → c < m) → by_cost s cs ≡ sort orderℕ (tie_weight s m) cs
by_cost-weight s m cs below =
    sort-cong (pairs orderℕ orderℕ) (ranked s (λ c. c)) orderℕ (tie_weight s m) cs (λ x y i j. tie-edges s m x y (below x i) (below y j))

-- the vertices vs, each once, and the edges below m that may be used: these join vertices of vs
module _ (ends : ℕ → Edge) (vs : List ℕ) (m : ℕ) (usable : ℕ → Bool) (some-vertex : 0 < length vs) (apart : Apart (λ x. x) vs)
    (within : (c : ℕ) → c < m → usable c ≡ true → Within vs (ends c)) where
  -- edges that may be used are within vs
  pub edges-within : (ts : List ℕ) → ((t : ℕ) → t ∈ ts → Usable m usable t) → AllWithin vs (map ends ts)
  edges-within ts below e k =
      let x = map-mem ends ts e k in
      let u = below x.0 x.1 in
      subst (λ (f : Edge). Within vs f) (sym x.2) (within x.0 u.0 u.1)

  pub edges-length : (ts : List ℕ) → ((t : ℕ) → t ∈ ts → Usable m usable t) → SpanningTree vs (map ends ts) → length ts ≡ length vs - 1
  edges-length ts below t = sym (length-map ts ends) ∙ spanning-length vs (map ends ts) some-vertex apart (edges-within ts below) t

  module _ (cs X : List ℕ) (below-cs : (c : ℕ) → c ∈ cs → Usable m usable c) (below-X : (c : ℕ) → c ∈ X → Usable m usable c) where
    pub added-among : added ends cs X ⊆ cs
    added-among x k = greedy-⊆ ends (kruskal-greedy ends _ cs) x k

    pub whole_below : (t : ℕ) → t ∈ whole ends cs X → Usable m usable t
    whole_below t k = ⊎_elim (λ i. below-X t i) (λ i. below-cs t (added-among t i)) (Memᴰ.append_cases X k)

    -- it is a spanning tree exactly where X is a forest and there is one edge fewer than there are vertices
    pub whole-tree : SpanningTree vs (map ends (whole ends cs X)) ↔ (Forest identity (map ends X) × (length (whole ends cs X) ≡ length vs - 1))
    whole-tree = (
      λ t. (
        ((forest-append identity (map ends X) (map ends (added ends cs X))).0 (rw map-append at t.forest)).0,
        edges-length (whole ends cs X) whole_below t,
      ),
      λ h. forest-spans vs some-vertex apart (map ends (whole ends cs X)) (edges-within (whole ends cs X) whole_below) (all h.0)
          (length-map (whole ends cs X) ends ∙ h.1),
    )
      where
        all : Forest identity (map ends X) → Forest identity (map ends (whole ends cs X))
        all f =
            rw map-append ((forest-append identity (map ends X) (map ends (added ends cs X))).1
            (f, greedy-forest ends (kruskal-greedy ends (merge_all identity (map ends X)) cs)))

    -- a spanning tree made of X and candidates
    module _ (s : ℕ → ℕ) (sorted : Sorted orderℕ (tie_weight s m) cs) (ts rest : List ℕ) (rising : RisingIn 0 m ts)
        (used : (t : ℕ) → t ∈ ts → usable t ≡ true) (tree : SpanningTree vs (map ends ts)) (split : Perm ts (X ++ rest)) (among : rest ⊆ cs) where
      parts : Forest identity (map ends X) × TreeFrom vs (merge_all identity (map ends X)) (map ends rest)
      parts =
          (tree-append (map ends X) (map ends rest)).0
          (subst (λ (es : List Edge). SpanningTree vs es) (map-append ends X rest) (tree-perm (perm-map ends split) tree))

      -- beside it the best one is a spanning tree,
      pub best-spans : SpanningTree vs (map ends (whole ends cs X))
      best-spans =
          subst⁻¹ (λ (es : List Edge). SpanningTree vs es) (map-append ends X (added ends cs X))
          ((tree-append (map ends X) (map ends (added ends cs X))).1
          (parts.0, kruskal-tree ends vs (merge_all identity (map ends X)) cs rest among parts.1))

      -- and no later by cost, then dictionary order
      pub best-tree : tree_order.le (tree_key s (ascending (whole ends cs X))) (tree_key s ts) ≡ true
      best-tree =
          tie-lists s m (ascending us) ts rises rising lengths
          ∙ le-leb (sum w (ascending us)) (sum w ts) lighter
        where
          us : List ℕ
          us = whole ends cs X

          w : ℕ → ℕ
          w = tie_weight s m

          rises : RisingIn 0 m (ascending us)
          rises = ascending-rising m us (forest-apart ends identity us best-spans.forest) (λ t k. (whole_below t k).0)

          lengths : length (ascending us) ≡ length ts
          lengths =
              perm-length (sort-perm orderℕ (λ x. x) us) ∙ edges-length us whole_below best-spans
              ∙ sym (edges-length ts (λ t k. ((rising-range 0 m ts rising t k).1, used t k)) tree)

          lighter : sum w (ascending us) ≤ sum w ts
          lighter =
              let near : EndsWithin ends vs cs = λ c i. let u = below-cs c i in within c u.0 u.1 in
              let less : sum w (added ends cs X) ≤ sum w rest =
              kruskal-least ends vs (merge_all identity (map ends X)) cs w sorted near rest among parts.1 in
              omega (arith, sum-perm w (sort-perm orderℕ (λ x. x) us), sum-append w X (added ends cs X), sum-perm w split, sum-append w X rest)
