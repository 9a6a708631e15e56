-- Forests and spanning trees as lists of edges: each edge crosses the labelling that the edges before it leave, and at the end all vertices are
-- in one component. The order of the edges does not matter (tree-perm), any edge that crosses can take the place of another
-- (exchange), and two trees have equally many edges (tree-length).
use Rattle.std.specs.Prelude.{List, [], ◌∷◌, map, ◌++◌, ◌↔◌, ◌⊎◌, ◌≡◌, refl, ℕ, suc, length}
use mathlib.Core.List.Memᴰ
use mathlib.Core.List.Memᴰ.{head as here}
use mathlib.Core.List.Memᴰ.{tail as there}
use Rattle.std.proofs.Common.{map-id, inl, inr, sym, ap, ◌∙◌, subst}
use Rattle.std.proofs.Math.Logic.{Equivalence}
use Rattle.order.specs.Lists.{◌∈◌, ◌⊆◌}
use Rattle.order.specs.Perm.{Perm, perm-cons, perm-nil, perm-swap, perm-trans}
use Rattle.order.proofs.Perm.{mem-front, perm-length, perm_middle, perm-sym, perm-⊆}
use Rattle.spanning.specs.Labelling.{Crosses, Edge, Labelling, Same, ◌≈◌, ◌⊑◌}
use Rattle.spanning.proofs.Labelling.{Crosses-≈, crosses-first, crosses-second, same-equivalence, same?}
use Rattle.spanning.specs.Labelling.{merge}
use Rattle.spanning.proofs.Labelling.{merge-joins, merge_keeps, merge-least, merge-same, merge-swap, merge-≈}
use Rattle.spanning.specs.Tree.{AllWithin, Exchange, Forest, OneComponent, TreeFrom, Within, merge_all, rest}

-- merge_all: it keeps what is joined, joins the ends of its edges, and is least with that
pub merge_all-keeps : (L : Labelling) (es : List Edge) → L ⊑ merge_all L es
merge_all-keeps L [] i j s = s
merge_all-keeps L (e ∷ es) i j s = merge_all-keeps (merge L e) es i j (merge_keeps L e i j s)

pub merge_all-joins : (L : Labelling) (es : List Edge) (e : Edge) → e ∈ es → Same (merge_all L es) e.a e.b
merge_all-joins L [] e m = elim m [ ]
merge_all-joins L (f ∷ es) e m = go (merge_all-joins (merge L f) es e) (Memᴰ.cases_cons m)
  where
    go : (e ∈ es → Same (merge_all (merge L f) es) e.a e.b) → (e ≡ f) ⊎ (e ∈ es) → Same (merge_all (merge L f) es) e.a e.b
    go below (inl p) = merge_all-keeps (merge L f) es e.a e.b (subst (λ (g : Edge). Same (merge L f) g.a g.b) (sym p) (merge-joins L f))
    go below (inr k) = below k

pub merge_all-least : (L : Labelling) (es : List Edge) {R : ℕ → ℕ → Type 0} → Equivalence R → ((i j : ℕ) → Same L i j → R i j)
    → ((e : Edge) → e ∈ es → R e.a e.b) → (i j : ℕ) → Same (merge_all L es) i j → R i j
merge_all-least L [] eqv keep joins i j s = keep i j s
merge_all-least L (e ∷ es) eqv keep joins i j s =
    merge_all-least (merge L e) es eqv (merge-least L e eqv keep (joins e (here refl))) (λ f m. joins f (there m)) i j s

-- two lists one after the other
pub merge_all-append : (L : Labelling) (es fs : List Edge) → merge_all L (es ++ fs) ≡ merge_all (merge_all L es) fs
merge_all-append L [] fs = refl
merge_all-append L (e ∷ es) fs = merge_all-append (merge L e) es fs

pub forest-append : (L : Labelling) (es fs : List Edge) → Forest L (es ++ fs) ↔ (Forest L es × Forest (merge_all L es) fs)
forest-append L [] fs = (λ f. (tt, f), λ f. f.1)
forest-append L (e ∷ es) fs =
    let below = forest-append (merge L e) es fs in
    (λ f. let r = below.0 f.1 in ((f.0, r.0), r.1), λ f. (f.0.0, below.1 (f.0.1, f.1)))

pub tree-append : {vs : List ℕ} {L : Labelling} (es fs : List Edge) → TreeFrom vs L (es ++ fs) ↔ (Forest L es × TreeFrom vs (merge_all L es) fs)
tree-append {vs} {L} es fs = (
  λ t. let f = (forest-append L es fs).0 t.forest in (f.0, record { forest = f.1; spans = rw merge_all-append at t.spans }),
  λ r. record { forest = (forest-append L es fs).1 (r.0, r.1.forest); spans = rw merge_all-append r.1.spans },
)

-- more edges and a coarser start join more
pub merge_all-⊑ : {L M : Labelling} (es fs : List Edge) → L ⊑ M → es ⊆ fs → merge_all L es ⊑ merge_all M fs
merge_all-⊑ {L} {M} es fs h sub =
    merge_all-least L es (same-equivalence (merge_all M fs)) (λ i j s. merge_all-keeps M fs i j (h i j s)) (λ e m. merge_all-joins M fs e (sub e m))

pub merge_all-≈ : {L M : Labelling} (es : List Edge) → L ≈ M → merge_all L es ≈ merge_all M es
merge_all-≈ es h = (merge_all-⊑ es es h.0 (λ e m. m), merge_all-⊑ es es h.1 (λ e m. m))

pub OneComponent-⊑ : {vs : List ℕ} {L M : Labelling} → L ⊑ M → OneComponent vs L → OneComponent vs M
OneComponent-⊑ h one i j p q = h i j (one i j p q)

-- Forest and TreeFrom respect ≈
pub forest-≈ : {L M : Labelling} (es : List Edge) → L ≈ M → Forest L es → Forest M es
forest-≈ [] h f = tt
forest-≈ {L = L} {M = M} (e ∷ es) h f = (Crosses-≈ e h f.0, forest-≈ {L = merge L e} {M = merge M e} es (merge-≈ e h) f.1)

pub tree-≈ : {vs : List ℕ} {L M : Labelling} {es : List Edge} → L ≈ M → TreeFrom vs L es → TreeFrom vs M es
tree-≈ {es = es} h t = record { forest = forest-≈ es h t.forest; spans = OneComponent-⊑ (merge_all-≈ es h).0 t.spans }

-- and they do not depend on the order of the edges
pub forest-perm : {es fs : List Edge} → Perm es fs → (L : Labelling) → Forest L es → Forest L fs
forest-perm perm-nil L f = tt
forest-perm (perm-cons {x = e} p) L f = (f.0, forest-perm p (merge L e) f.1)
forest-perm (perm-swap {x = d} {y = e} {xs = es}) L f =
    (crosses-first L d e f.1.0, (crosses-second L d e f.0 f.1.0, forest-≈ es (merge-swap L d e) f.1.1))
forest-perm (perm-trans p q) L f = forest-perm q L (forest-perm p L f)

pub tree-perm : {vs : List ℕ} {L : Labelling} {es fs : List Edge} → Perm es fs → TreeFrom vs L es → TreeFrom vs L fs
tree-perm {L = L} {es} {fs} p t =
    record { forest = forest-perm p L t.forest; spans = OneComponent-⊑ (merge_all-⊑ es fs (λ i j s. s) (perm-⊆ p)) t.spans }

pub tree-tail : {vs : List ℕ} {L : Labelling} {e : Edge} {es : List Edge} → TreeFrom vs L (e ∷ es) → TreeFrom vs (merge L e) es
tree-tail t = record { forest = t.forest.1; spans = t.spans }

pub tree-cons : {vs : List ℕ} {L : Labelling} {e : Edge} {es : List Edge} → Crosses L e → TreeFrom vs (merge L e) es → TreeFrom vs L (e ∷ es)
tree-cons c t = record { forest = (c, t.forest); spans = t.spans }

-- every edge of a forest crosses the labelling that the forest starts from
pub forest-crosses : (L : Labelling) {es : List Edge} (e : Edge) → e ∈ es → Forest L es → Crosses L e
forest-crosses L e m f = let r = mem-front m in (forest-perm r.1 L f).0

pub exchange : {A : Type 0} (ends : A → Edge) (vs : List ℕ) (L : Labelling) (e : Edge) → Within vs e → Crosses L e
    → (ts : List A) → TreeFrom vs L (map ends ts) → Exchange ends vs L e ts
exchange ends vs L e w c [] t = absurd (c (t.spans e.a e.b w.0 w.1))
exchange {A} ends vs L e w c (t ∷ ts) r = go (same? (merge L (ends t)) e.a e.b) (λ k. exchange ends vs (merge L (ends t)) e w k ts (tree-tail r))
  where
    go : Dec (Same (merge L (ends t)) e.a e.b) → (Crosses (merge L (ends t)) e → Exchange ends vs (merge L (ends t)) e ts)
        → Exchange ends vs L e (t ∷ ts)
    go (yes s) below = record { before = []; out = t; after = ts; split = refl; tree = tree-≈ (merge-same L e (ends t) c s) (tree-tail r) }
    go (no k) below =
        let x : Exchange ends vs (merge L (ends t)) e ts = below k in
        record {
          before = t ∷ x.before;
          out = x.out;
          after = x.after;
          split = ap {B = List A} (λ l. t ∷ l) x.split;
          tree = tree-cons (crosses-second L (ends t) e r.forest.0 k) (tree-≈ (merge-swap L (ends t) e) x.tree);
        }

pub exchange-perm : {A : Type 0} {ends : A → Edge} {vs : List ℕ} {L : Labelling} {e : Edge} {ts : List A} (x : Exchange ends vs L e ts)
    → Perm ts (x.out ∷ rest x)
exchange-perm {A} x = subst (λ (l : List A). Perm l (x.out ∷ rest x)) (sym x.split) (perm_middle x.out x.before x.after)

-- two trees have equally many edges
pub tree-length : {vs : List ℕ} {L : Labelling} (es fs : List Edge) → AllWithin vs es → AllWithin vs fs → TreeFrom vs L es → TreeFrom vs L fs
    → length es ≡ length fs
tree-length [] [] we wf te tf = refl
tree-length (e ∷ es) [] we wf te tf = let w = we e (here refl) in absurd (te.forest.0 (tf.spans e.a e.b w.0 w.1))
tree-length {vs} {L} es (f ∷ fs) we wf te tf =
    let x : Exchange id vs L f es = exchange id vs L f (wf f (here refl)) tf.forest.0 es
    (subst (λ (l : List Edge). TreeFrom vs L l) (sym (map-id es)) te) in
    perm-length (exchange-perm x)
    ∙ ap suc (tree-length {vs = vs} {L = merge L f} (rest x) fs (λ e m. we e (perm-⊆ (perm-sym (exchange-perm x)) e (there m))) (λ e m. wf e (there m))
    (subst (λ (l : List Edge). TreeFrom vs (merge L f) l) (map-id (rest x)) x.tree) (tree-tail tf))
  where
    id : Edge → Edge
    id e = e
