-- What the labellings stand for, with no label in it: two vertices are joined by a list of edges if a way along the edges leads from one to
-- the other. A spanning tree is a list of edges that joins all vertices and has no ring: no edge's ends are joined by the others.
use mathlib.Core.List.Memᴰ
use Rattle.std.specs.Prelude.{List, [], ◌∷◌, ◌++◌, ◌↔◌, ◌≡◌, refl, ℕ}
use Rattle.std.proofs.Common.{append-nil, sym, ◌∙◌, subst}
use Rattle.std.proofs.Math.Logic.{Equivalence}
use Rattle.std.proofs.Math.Seq.{append_snoc}
use Rattle.order.specs.Lists.{◌∈◌, ◌⊆◌}
use Rattle.order.specs.Perm.{Perm, perm-trans}
use Rattle.order.proofs.Perm.{perm_middle, perm-sym}
use Rattle.spanning.specs.Labelling.{Edge, Labelling, Same}
use Rattle.spanning.specs.Tree.{Forest, SpanningTree, identity, merge_all}
use Rattle.spanning.proofs.Tree.{forest-append, forest-perm, merge_all-append, merge_all-joins, merge_all-least}
use Rattle.spanning.specs.Joined.{Joined, NoRing, along, back, onward, stay}

pub joined-⊆ : {es fs : List Edge} {i j : ℕ} → es ⊆ fs → Joined es i j → Joined fs i j
joined-⊆ h (along e m) = along e (h e m)
joined-⊆ h (stay i) = stay i
joined-⊆ h (back p) = back (joined-⊆ h p)
joined-⊆ h (onward p q) = onward (joined-⊆ h p) (joined-⊆ h q)

joined-equivalence : (es : List Edge) → Equivalence (Joined es)
joined-equivalence es = record { refl = λ i. stay i; symm = λ i j p. back p; trans = λ i j k p q. onward p q }

-- merge_all joins what the edges join
pub joined_same : (L : Labelling) {es : List Edge} {i j : ℕ} → Joined es i j → Same (merge_all L es) i j
joined_same L {es} (along e m) = merge_all-joins L es e m
joined_same L (stay i) = refl
joined_same L (back p) = sym (joined_same L p)
joined_same L (onward p q) = joined_same L p ∙ joined_same L q

pub same-joined : (es : List Edge) (i j : ℕ) → Same (merge_all identity es) i j → Joined es i j
same-joined es = merge_all-least identity es (joined-equivalence es) (λ i j p. subst (λ (k : ℕ). Joined es i k) p (stay i)) (λ e m. along e m)

-- a forest has no ring: any edge can be moved to the end, and crosses there
forest-no-ring : (es : List Edge) → Forest identity es → NoRing es
forest-no-ring es f xs e ys p r = ((forest-append identity (xs ++ ys) (e ∷ [])).0 moved).1.0 (joined_same identity r)
  where
    moved : Forest identity (xs ++ ys ++ e ∷ [])
    moved =
        forest-perm
        (perm-trans (perm_middle e xs ys)
        (perm-sym (subst (λ (l : List Edge). Perm (xs ++ ys ++ e ∷ []) (e ∷ l)) (append-nil (xs ++ ys)) (perm_middle e (xs ++ ys) []))))
        identity (subst (λ (l : List Edge). Forest identity l) p f)

-- and without a ring each edge crosses what those before it leave (ps: the edges before, qs: those to come)
no-ring-forest : (es : List Edge) → NoRing es → (ps qs : List Edge) → es ≡ ps ++ qs → Forest (merge_all identity ps) qs
no-ring-forest es h ps [] p = tt
no-ring-forest es h ps (q ∷ qs) p = (
  λ s. h ps q qs p (joined-⊆ (λ e m. Memᴰ.append_left qs m) (same-joined ps q.a q.b s)),
  subst (λ (L : Labelling). Forest L qs) (merge_all-append identity ps (q ∷ []))
      (no-ring-forest es h (ps ++ q ∷ []) qs (p ∙ sym (append_snoc ps q qs))),
)

-- a spanning tree joins all vertices of vs, and has no ring
pub spanning-iff : (vs : List ℕ) (es : List Edge) → SpanningTree vs es ↔ (((i j : ℕ) → i ∈ vs → j ∈ vs → Joined es i j) × NoRing es)
spanning-iff vs es = (
  λ t. (λ i j p q. same-joined es i j (t.spans i j p q), forest-no-ring es t.forest),
  λ h. record { forest = no-ring-forest es h.1 [] es refl; spans = λ i j p q. joined_same identity (h.0 i j p q) },
)
