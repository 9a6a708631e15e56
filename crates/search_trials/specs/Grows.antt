-- The tree that a set of exceptions leads to: where the set is a forest, it has the set and what Kruskal's method keeps of the base beside it.
use Prim.Native.Nat.{ℕ}
use Rattle.std.specs.Prelude.{Bool, false, not, ◌≡◌, refl, leb, length, replicate}
use Rattle.std.proofs.Math.Bool.{true}
use mathlib.Core.List.Memᴰ
use mathlib.Core.List.Memᴰ.{head as here}
use mathlib.Core.List.{List, [], ◌∷◌, ◌++◌, foldl, foldl-append, map}
use mathlib.Core.List.Memᴰ.{tail as there}
use Rattle.std.proofs.Common.{⊎_elim, sym, ap, ◌∙◌}
use Rattle.std.proofs.Math.Path.{fun_ext, subst}
use borrow.Author.Tests.{eq-eqb, ne_eqb, not-false, not-true}
use Rattle.order.specs.Test.{by-test, clash}
use Rattle.order.specs.Perm.{Perm, perm-cons, perm-nil, perm-swap, perm-trans}
use Rattle.order.proofs.Perm.{perm-map, perm-refl, perm-sym, perm-⊆}
use Rattle.spanning.specs.Labelling.{Labelling, crosses, merge}
use Rattle.spanning.proofs.Labelling.{Crosses→crosses, crosses→Crosses}
use Rattle.spanning.specs.LabelList.{label_of}
use Rattle.spanning.specs.Tree.{EndsBelow, Forest, identity, merge_all}
use Rattle.spanning.proofs.Tree.{forest-perm}
use Rattle.spanning.specs.Kruskal.{kruskal}
use Rattle.spanning.proofs.Lost.{kruskal-all, kruskal-whole}
use Rattle.network.specs.Capacities.{links_held, stations_held}
use Rattle.network.specs.Yard.{ends_at}
use Rattle.forest.specs.Groups.{Led, apart, apart-labels, apart-led, joined, joined-labels, joined-led}
use Rattle.forest.specs.declared.Forest as groups
use Rattle.kruskal.specs.Base.{kept}
use Rattle.forest.specs.History.{Near}
use Rattle.kruskal.specs.Grown.{Holds, bare-holds, flags_of, grown-holds, with_flag}
use Rattle.kruskal.specs.Tree.{bare, linked}
use Rattle.search_trials.specs.BaseAlone.{Kept}
use Rattle.search_trials.specs.Marks.{flag-turn}
use Rattle.search_trials.specs.Search.{Best, offered, tried}
use Rattle.search_trials.specs.Sets.{higher, lower, pair}
use Rattle.search_trials.specs.Stands.{grown_from}
use Rattle.search_trials.specs.Rows.{group-merge, one_group}

-- the links x and y are a ring
unfoldable pub ring : List ℕ → ℕ → ℕ → Bool
ring ends x y = not (crosses (merge identity (ends_at ends x)) (ends_at ends y))

pub ring-group : (ends : List ℕ) (x y : ℕ) → one_group (ends_at ends x).a (ends_at ends x).b (ends_at ends y).a (ends_at ends y).b ≡ ring ends x y
unfolding ring
ring-group ends x y = group-merge identity (ends_at ends x) (ends_at ends y)

-- the links of a set, with nothing joined before, are no ring
abbrev pub NoRing : List ℕ → List ℕ → Type 0
NoRing ends X = Forest identity (map (ends_at ends) X)

-- ---- what is kept is a forest

module _ (ends : List ℕ) where
  kept-forest : (f : groups.Forest) (l : List ℕ) → Led f → Near ends (kept ends f l) → Forest (label_of f.leader) (map (ends_at ends) (kept ends f l))
  unfolding kept
  kept-forest f [] led near = tt
  kept-forest f (e ∷ l) led near =
      by-test (crosses (label_of f.leader) (ends_at ends e))
      (λ c.
      let a : ℕ = (ends_at ends e).a in
      let b : ℕ = (ends_at ends e).b in
      let more : List ℕ = kept ends (joined f a b) l in
      let all : Near ends (e ∷ more) = rw c at near in
      let w : EndsBelow stations_held (ends_at ends e) = all e (here refl) in
      let later = kept-forest (joined f a b) l (joined-led f a b led w.0 w.1) (λ x m. all x (there m)) in
      rw c (
        crosses→Crosses (label_of f.leader) (ends_at ends e) c,
        subst (λ (L : Labelling). Forest L (map (ends_at ends) more)) (joined-labels f a b led w.0 w.1) later,
      ))
      (λ c. let all : Near ends (kept ends f l) = rw c at near in rw c (kept-forest f l led all))

  -- a base that was kept has no ring
  pub base-forest : (base : List ℕ) → Kept ends base → Near ends base → NoRing ends base
  base-forest base made near =
      let f = kept-forest apart base apart-led (subst (Near ends) made.kept_of near) in
      let g = subst (λ (L : Labelling). Forest L (map (ends_at ends) (kept ends apart base))) (fun_ext apart-labels) f in
      subst (NoRing ends) (sym made.kept_of) g

-- ---- the tree of a set

module _ (ends sums : List ℕ) where
  -- the walk over a set takes what Kruskal's method keeps of it
  set_holds : (X : List ℕ) → Near ends X → Holds ends sums (kruskal (ends_at ends) identity X) (foldl (linked ends sums) bare X)
  set_holds X near =
      let start = bare-holds ends sums in
      subst (λ (L : Labelling). Holds ends sums (kruskal (ends_at ends) L X) (foldl (linked ends sums) bare X)) start.labels
      (grown-holds ends sums [] bare X near start)

  -- and all of it where it is no ring
  whole-holds : (X : List ℕ) → Near ends X → NoRing ends X → Holds ends sums X (foldl (linked ends sums) bare X)
  whole-holds X near f = rw (kruskal-all (ends_at ends) identity X f) at (set_holds X near)

  pub grown-set : (base X : List ℕ) → Near ends X → Near ends base → NoRing ends X
      → Holds ends sums (X ++ kruskal (ends_at ends) (merge_all identity (map (ends_at ends) X)) base) (grown_from ends sums base X)
  unfolding grown_from
  grown-set base X near nearby f =
      let h = whole-holds X near f in
      let t = foldl (linked ends sums) bare X in
      subst (λ (L : Labelling). Holds ends sums (X ++ kruskal (ends_at ends) L base) (foldl (linked ends sums) t base)) h.labels
      (grown-holds ends sums X t base nearby h)

  -- SETS THAT ARE TRIED: one without a ring is offered with its tree, one with a ring is passed over
  module _ (goal : ℕ) (base X : List ℕ) (b : Best) (near : Near ends X) where
    pub tried-tree : NoRing ends X → tried ends sums goal base b X ≡ offered goal b (grown_from ends sums base X)
    unfolding tried grown_from
    tried-tree f = rw (eq-eqb (foldl (linked ends sums) bare X).count (length X) (whole-holds X near f).size)

    pub tried-ring : (NoRing ends X → ⊥) → tried ends sums goal base b X ≡ b
    unfolding tried
    tried-ring f =
        rw (ne_eqb (foldl (linked ends sums) bare X).count (length X)
        (λ e. f (kruskal-whole (ends_at ends) identity X (sym (set_holds X near).size ∙ e))))

-- ---- sets of one and of two links

pub one-near : (ends : List ℕ) (x : ℕ) → EndsBelow stations_held (ends_at ends x) → Near ends (x ∷ [])
one-near ends x w e m = subst (λ (y : ℕ). EndsBelow stations_held (ends_at ends y)) (sym (Memᴰ.eq_of_singleton m)) w

pub one-whole : (ends : List ℕ) (x : ℕ) → crosses identity (ends_at ends x) ≡ true → NoRing ends (x ∷ [])
one-whole ends x c = (crosses→Crosses identity (ends_at ends x) c, tt)

pub pair-perm : (x y : ℕ) → Perm (x ∷ y ∷ []) (pair x y)
unfolding lower higher
pair-perm x y = by-test (leb x y) (λ e. rw e (perm-refl (x ∷ y ∷ []))) (λ e. rw e perm-swap)

module _ (ends : List ℕ) (x y : ℕ) where
  pub pair-near : EndsBelow stations_held (ends_at ends x) → EndsBelow stations_held (ends_at ends y) → Near ends (pair x y)
  pair-near v w e m =
      ⊎_elim
      (λ q. subst (λ (z : ℕ). EndsBelow stations_held (ends_at ends z)) (sym q) v)
      (λ n. one-near ends y w e n)
      (Memᴰ.cases_cons (perm-⊆ (perm-sym (pair-perm x y)) e m))

  pub two-whole : crosses identity (ends_at ends x) ≡ true → ring ends x y ≡ false → NoRing ends (x ∷ y ∷ [])
  unfolding ring
  two-whole c r =
      let d : crosses (merge identity (ends_at ends x)) (ends_at ends y) ≡ true = not-false (crosses (merge identity (ends_at ends x)) (ends_at ends y)) r in
      (crosses→Crosses identity (ends_at ends x) c, (crosses→Crosses (merge identity (ends_at ends x)) (ends_at ends y) d, tt))

  pub pair-whole : crosses identity (ends_at ends x) ≡ true → ring ends x y ≡ false → NoRing ends (pair x y)
  pair-whole c r = forest-perm (perm-map (ends_at ends) (pair-perm x y)) identity (two-whole c r)

  pub pair-ring : ring ends x y ≡ true → NoRing ends (pair x y) → ⊥
  unfolding ring
  pair-ring r f =
      let g = forest-perm (perm-map (ends_at ends) (perm-sym (pair-perm x y))) identity f in
      let d = Crosses→crosses (merge identity (ends_at ends x)) (ends_at ends y) g.1.0 in
      clash d (not-true (crosses (merge identity (ends_at ends x)) (ends_at ends y)) r)

-- ---- flags of links in another order

flags-fold : {xs ys : List ℕ} → Perm xs ys → (flags : List Bool) → foldl with_flag flags xs ≡ foldl with_flag flags ys
flags-fold perm-nil flags = refl
flags-fold (perm-cons {x = x} p) flags = flags-fold p (with_flag flags x)
flags-fold (perm-swap {x = x} {y = y} {xs = xs}) flags = ap (λ (f : List Bool). foldl with_flag f xs) (flag-turn flags x y)
flags-fold (perm-trans p q) flags = flags-fold p flags ∙ flags-fold q flags

pub flags-perm : (xs ys l : List ℕ) → Perm xs ys → flags_of (xs ++ l) ≡ flags_of (ys ++ l)
unfolding flags_of
flags-perm xs ys l p =
    foldl-append with_flag (replicate links_held false) xs l
    ∙ ap (λ (f : List Bool). foldl with_flag f l) (flags-fold p (replicate links_held false))
    ∙ sym (foldl-append with_flag (replicate links_held false) ys l)
