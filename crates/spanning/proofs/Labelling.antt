-- Labellings of the vertices, which say what is joined to what, and what an edge does to one.
-- A labelling gives each vertex a label; vertices with equal labels are in one component. Two labellings that join the same vertices
-- are equivalent (≈), whatever their labels.
use Rattle.std.specs.Prelude.{true, false, ◌≡◌, refl, ℕ, eqb}
use Rattle.std.proofs.Common.{inl, inr, sym, ◌∙◌, eqb-true, eq-eqb, ne_eqb}
use Rattle.std.proofs.Math.Logic.{Equivalence}
use Rattle.std.proofs.Math.Decide.{ℕ_discrete}
use Rattle.std.proofs.lemmas.Bool.{not-true, eqb-false, not-false}
use Rattle.order.proofs.Test.{fails}
use Rattle.spanning.specs.Labelling.{Crosses, Edge, Labelling, Linked, Same, crosses, merge, ◌≈◌, ◌⊑◌}

-- whether i and j are in one component is decided by their labels
pub same? : (L : Labelling) (i j : ℕ) → Dec (Same L i j)
same? L i j = ℕ_discrete (L i) (L j)

-- the test and the statement agree
pub crosses→Crosses : (L : Labelling) (e : Edge) → crosses L e ≡ true → Crosses L e
unfolding crosses
crosses→Crosses L e t s = eqb-false (L e.a) (L e.b) (not-true (eqb (L e.a) (L e.b)) t) s

pub Crosses→crosses : (L : Labelling) (e : Edge) → Crosses L e → crosses L e ≡ true
unfolding crosses
Crosses→crosses L e c = rw (ne_eqb (L e.a) (L e.b) c)

-- an edge that fails the test has its ends in one component
pub crosses-false : (L : Labelling) (e : Edge) → crosses L e ≡ false → Same L e.a e.b
unfolding crosses
crosses-false L e p = eqb-true (L e.a) (L e.b) (not-false (eqb (L e.a) (L e.b)) p)

pub same-crosses : (L : Labelling) (e : Edge) → Same L e.a e.b → crosses L e ≡ false
same-crosses L e s = fails (crosses L e) (λ t. crosses→Crosses L e t s)

pub ⊑_trans : {L M N : Labelling} → L ⊑ M → M ⊑ N → L ⊑ N
⊑_trans h k i j s = k i j (h i j s)

-- whether an edge crosses depends on what is joined alone
pub Crosses-≈ : {L M : Labelling} (e : Edge) → L ≈ M → Crosses L e → Crosses M e
Crosses-≈ e h c s = c (h.1 e.a e.b s)

pub same-equivalence : (L : Labelling) → Equivalence (Same L)
same-equivalence L = record { refl = λ i. refl; symm = λ i j p. sym p; trans = λ i j k p q. p ∙ q }

-- merge at a vertex that has the label of b, and at one that has not
module _ (L : Labelling) (e : Edge) where
  pub merge-hit : (v : ℕ) → Same L v e.b → merge L e v ≡ L e.a
  unfolding merge
  merge-hit v p = rw (eq-eqb (L v) (L e.b) p)

  pub merge-miss : (v : ℕ) → ¬ Same L v e.b → merge L e v ≡ L v
  unfolding merge
  merge-miss v n = rw (ne_eqb (L v) (L e.b) n)

  -- merge keeps what is joined, and joins the ends of e
  pub merge_keeps : L ⊑ merge L e
  merge_keeps i j s = go (same? L i e.b)
    where
      go : Dec (Same L i e.b) → merge L e i ≡ merge L e j
      go (yes p) = merge-hit i p ∙ sym (merge-hit j (sym s ∙ p))
      go (no n) = merge-miss i n ∙ s ∙ sym (merge-miss j (λ q. n (s ∙ q)))

  pub merge-joins : Same (merge L e) e.a e.b
  merge-joins = go (same? L e.a e.b)
    where
      go : Dec (Same L e.a e.b) → Same (merge L e) e.a e.b
      go (yes p) = merge_keeps e.a e.b p
      go (no n) = merge-miss e.a n ∙ sym (merge-hit e.b refl)

  -- merge joins no more than that (same-merge-iff: and no less)
  pub same-merge : (i j : ℕ) → Same (merge L e) i j → Linked L e i j
  same-merge i j s = go (same? L i e.b) (same? L j e.b)
    where
      go : Dec (Same L i e.b) → Dec (Same L j e.b) → Linked L e i j
      go (yes p) (yes q) = inl (p ∙ sym q)
      go (yes p) (no n) = inr (inr (p, sym (merge-miss j n) ∙ sym s ∙ merge-hit i p))
      go (no n) (yes q) = inr (inl (sym (merge-miss i n) ∙ s ∙ merge-hit j q, q))
      go (no n) (no m) = inl (sym (merge-miss i n) ∙ s ∙ merge-miss j m)

  -- merge is least: an equivalence that holds what L joins, and the ends of e, holds what merge joins
  pub merge-least : {R : ℕ → ℕ → Type 0} → Equivalence R → ((i j : ℕ) → Same L i j → R i j) → R e.a e.b
      → (i j : ℕ) → Same (merge L e) i j → R i j
  merge-least {R} eqv keep joins i j s = go (same-merge i j s)
    where
      go : Linked L e i j → R i j
      go (inl p) = keep i j p
      go (inr (inl p)) = eqv.trans i e.a j (keep i e.a p.0) (eqv.trans e.a e.b j joins (keep e.b j (sym p.1)))
      go (inr (inr p)) = eqv.trans i e.b j (keep i e.b p.0) (eqv.trans e.b e.a j (eqv.symm e.a e.b joins) (keep e.a j (sym p.1)))

-- merge respects ⊑ and ≈
pub merge-⊑ : {L M : Labelling} (e : Edge) → L ⊑ M → merge L e ⊑ merge M e
merge-⊑ {L} {M} e h = merge-least L e (same-equivalence (merge M e)) (⊑_trans h (merge_keeps M e)) (merge-joins M e)

pub merge-≈ : {L M : Labelling} (e : Edge) → L ≈ M → merge L e ≈ merge M e
merge-≈ e h = (merge-⊑ e h.0, merge-⊑ e h.1)

-- the order of two merges does not matter
merge-swap-⊑ : (L : Labelling) (e f : Edge) → merge (merge L e) f ⊑ merge (merge L f) e
merge-swap-⊑ L e f =
    merge-least (merge L e) f (same-equivalence (merge (merge L f) e)) (merge-⊑ e (merge_keeps L f))
    (merge_keeps (merge L f) e f.a f.b (merge-joins L f))

pub merge-swap : (L : Labelling) (e f : Edge) → merge (merge L e) f ≈ merge (merge L f) e
merge-swap L e f = (merge-swap-⊑ L e f, merge-swap-⊑ L f e)

-- if e crosses L, and f joins the ends of e, then e joins the ends of f
pub trade : (L : Labelling) (e f : Edge) → Crosses L e → Same (merge L f) e.a e.b → Same (merge L e) f.a f.b
trade L e f c s = go (same-merge L f e.a e.b s)
  where
    K : (i j : ℕ) → Same L i j → Same (merge L e) i j
    K = merge_keeps L e

    go : Linked L f e.a e.b → Same (merge L e) f.a f.b
    go (inl p) = absurd (c p)
    go (inr (inl p)) = sym (K e.a f.a p.0) ∙ merge-joins L e ∙ K e.b f.b p.1
    go (inr (inr p)) = sym (K e.b f.a p.1) ∙ sym (merge-joins L e) ∙ K e.a f.b p.0

-- an edge that crosses L, and not what f leaves of it, does the same as f
pub merge-same : (L : Labelling) (e f : Edge) → Crosses L e → Same (merge L f) e.a e.b → merge L f ≈ merge L e
merge-same L e f c s = (
  merge-least L f (same-equivalence (merge L e)) (merge_keeps L e) (trade L e f c s),
  merge-least L e (same-equivalence (merge L f)) (merge_keeps L f) s,
)

-- swap: two edges that cross one after the other cross in the other order too (merge-swap: and leave the same)
pub crosses-first : (L : Labelling) (e f : Edge) → Crosses (merge L e) f → Crosses L f
crosses-first L e f c s = c (merge_keeps L e f.a f.b s)

pub crosses-second : (L : Labelling) (e f : Edge) → Crosses L e → Crosses (merge L e) f → Crosses (merge L f) e
crosses-second L e f ce cf s = cf (trade L e f ce s)
