-- The tests of Tree reflect the statements, and a spanning tree of some vertices has one edge fewer: as many as a star of these vertices.
use Rattle.std.specs.Prelude.{true, List, [], ◌∷◌, ◌↔◌, ◌≡◌, refl, ℕ, ◌-◌, ◌<◌, eqb, length}
use mathlib.Core.List.Memᴰ
use mathlib.Core.List.Memᴰ.{head as here}
use mathlib.Core.List.Memᴰ.{tail as there}
use Rattle.std.proofs.Common.{⊎_elim, sym, ap, ◌∙◌, arith, eqb-true, eq-eqb}
use Rattle.std.proofs.lemmas.List.{length-map}
use Rattle.order.specs.Test.{left}
use Rattle.order.proofs.Test.{both, right}
use Rattle.order.specs.Lists.{◌∈◌}
use Rattle.order.proofs.Lists.{all-mem, map-mem, mem-all}
use Rattle.order.specs.Sorted.{Apart}
use Rattle.spanning.specs.Labelling.{Edge, Labelling, Same, crosses, merge}
use Rattle.spanning.proofs.Labelling.{Crosses→crosses, crosses→Crosses, merge-miss}
use Rattle.spanning.specs.Tree.{AllWithin, Forest, OneComponent, SpanningTree, TreeFrom, identity, merge_all}
use Rattle.spanning.proofs.Tree.{merge_all-joins, tree-length}
use Rattle.spanning.specs.Tree.{is_forest, is_one_component, is_tree, is_tree_from}
use Rattle.spanning.specs.Size.{spoke, star}

pub is_forest-iff : (L : Labelling) (es : List Edge) → (is_forest L es ≡ true) ↔ Forest L es
unfolding is_forest
is_forest-iff L [] = (λ t. tt, λ t. refl)
is_forest-iff L (e ∷ es) =
    let below = is_forest-iff (merge L e) es in (
      λ t. (crosses→Crosses L e (left (crosses L e) (is_forest (merge L e) es) t), below.0 (right (crosses L e) (is_forest (merge L e) es) t)),
      λ f. both (Crosses→crosses L e f.0) (below.1 f.1),
    )

-- the test compares each label with that of the first vertex
pub is_one_component-iff : (vs : List ℕ) (L : Labelling) → (is_one_component vs L ≡ true) ↔ OneComponent vs L
unfolding is_one_component
is_one_component-iff [] L = (λ t i j p. elim p [ ], λ one. refl)
is_one_component-iff (v ∷ vs) L = (
  λ t.
      let same : (i : ℕ) → i ∈ v ∷ vs → Same L i v
      = λ i p. ⊎_elim (λ q. ap L q) (λ k. eqb-true (L i) (L v) (all-mem (λ u. eqb (L u) (L v)) vs t i k)) (Memᴰ.cases_cons p) in
      λ i j p q. same i p ∙ sym (same j q),
  λ one. mem-all (λ u. eqb (L u) (L v)) vs (λ u k. eq-eqb (L u) (L v) (one u v (there k) (here refl))),
)

pub is_tree_from-iff : (vs : List ℕ) (L : Labelling) (es : List Edge) → (is_tree_from vs L es ≡ true) ↔ TreeFrom vs L es
unfolding is_tree_from
is_tree_from-iff vs L es = (
  λ t. record {
    forest = (is_forest-iff L es).0 (left (is_forest L es) (is_one_component vs (merge_all L es)) t);
    spans = (is_one_component-iff vs (merge_all L es)).0 (right (is_forest L es) (is_one_component vs (merge_all L es)) t);
  },
  λ r. both ((is_forest-iff L es).1 r.forest) ((is_one_component-iff vs (merge_all L es)).1 r.spans),
)

pub is_tree-iff : (vs : List ℕ) (es : List Edge) → (is_tree vs es ≡ true) ↔ SpanningTree vs es
unfolding is_tree
is_tree-iff vs es = is_tree_from-iff vs identity es

star-within : (v : ℕ) (us : List ℕ) → AllWithin (v ∷ us) (star v us)
unfolding star spoke
star-within v us e m = let x = map-mem (spoke v) us e m in rw x.2 (here refl, there x.1)

-- a star is a forest where no two of its vertices are joined before
star-forest : (v : ℕ) (us : List ℕ) (L : Labelling) → Apart L (v ∷ us) → Forest L (star v us)
unfolding star spoke
star-forest v [] L h = tt
star-forest v (u ∷ us) L h = (λ s. h.0 u (here refl) (sym s), star-forest v us (merge L (spoke v u)) apart)
  where
    new : Labelling
    new = merge L (spoke v u)

    other : (w : ℕ) → w ∈ us → new w ≡ L w
    other w m = merge-miss L (spoke v u) w (h.1.0 w m)

    centre : new v ≡ L v
    centre = merge-miss L (spoke v u) v (λ s. h.0 u (here refl) (sym s))

    apart : Apart new (v ∷ us)
    apart = (λ w m s. h.0 w (there m) (sym (other w m) ∙ s ∙ centre), apart-others us (λ w m. other w m) h.1.1)
      where
        apart-others : (ws : List ℕ) → ((w : ℕ) → w ∈ ws → new w ≡ L w) → Apart L ws → Apart new ws
        apart-others [] same p = tt
        apart-others (w ∷ ws) same p =
            (λ x m s. p.0 x m (sym (same x (there m)) ∙ s ∙ same w (here refl)), apart-others ws (λ x m. same x (there m)) p.1)

pub star-tree : (v : ℕ) (us : List ℕ) → Apart (λ x. x) (v ∷ us) → SpanningTree (v ∷ us) (star v us)
unfolding star spoke
star-tree v us h = record { forest = star-forest v us identity h; spans = λ i j p q. sym (reaches i p) ∙ reaches j q }
  where
    reaches : (i : ℕ) → i ∈ v ∷ us → Same (merge_all identity (star v us)) v i
    reaches i p = ⊎_elim (λ q. rw q) (λ k. merge_all-joins identity (star v us) (spoke v i) (Memᴰ.map (spoke v) k)) (Memᴰ.cases_cons p)

-- a spanning tree of some vertices has one edge fewer
pub spanning-length : (vs : List ℕ) (es : List Edge) → 0 < length vs → Apart (λ x. x) vs → AllWithin vs es → SpanningTree vs es
    → length es ≡ length vs - 1
unfolding star
spanning-length [] es h a w t = absurd (omega arith)
spanning-length (v ∷ us) es h a w t = tree-length es (star v us) w (star-within v us) t (star-tree v us a) ∙ length-map us (spoke v) ∙ omega arith
