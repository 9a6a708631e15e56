-- What the forest value means: it holds the links that were taken, and a walk over l takes those that the theory's `kruskal` keeps of l.
use Rattle.std.specs.Prelude.{ℕ, Bool, true, false, ◌≡◌, length, set, replicate}
use mathlib.Core.List.Memᴰ.{head as here}
use mathlib.Core.List.Memᴰ.{tail as there}
use mathlib.Core.List.{List, [], ◌∷◌, ◌++◌, append-nil, foldl, foldl-append, map, map-append}
use Rattle.std.proofs.Math.Path.{refl, sym, ap, fun_ext}
use Rattle.std.proofs.Common.{◌∙◌, subst, arith}
use Rattle.std.proofs.Math.ListN.{length-append}
use Rattle.std.proofs.Math.Seq.{append_snoc}
use Rattle.order.specs.Test.{by-test}
use Rattle.order.specs.Perm as perm
use Rattle.order.proofs.Perm as perm_laws
use Rattle.spanning.specs.Labelling.{Labelling, crosses, merge}
use Rattle.spanning.specs.LabelList.{label_of}
use Rattle.spanning.specs.Tree.{EndsBelow, identity, merge_all}
use Rattle.spanning.proofs.Tree.{merge_all-append}
use Rattle.spanning.specs.Kruskal.{kruskal}
use Rattle.network.specs.Capacities.{links_held, stations_held}
use Rattle.network.specs.Yard.{ends_at, sum_at}
use Rattle.forest.specs.Groups.{Led, apart-labels, apart-led, joined, joined-labels, joined-led}
use Rattle.forest.specs.History.{Near}
use Rattle.forest.specs.declared.Forest.{Forest}
use Rattle.kruskal.specs.Tree.{added, bare, linked}
use Rattle.kruskal.specs.Base.{kept}
use Rattle.kruskal.specs.Tree.{Tree}

-- the flags with that of link e set
abbrev pub with_flag : List Bool → ℕ → List Bool
with_flag flags e = set flags e true

-- a flag for each link, set for the links of a list
unfoldable pub flags_of : List ℕ → List Bool
flags_of ts = foldl with_flag (replicate links_held false) ts

module _ (ends sums : List ℕ) where
  -- the forest value t holds the links ts
  pub record Holds (ts : List ℕ) (t : Tree) : Type 0 where
    pub led : Led t.forest
    pub labels : label_of t.forest.leader ≡ merge_all identity (map (ends_at ends) ts)
    pub flags : t.taken ≡ flags_of ts
    pub total : t.sum ≡ perm.sum (sum_at sums) ts
    pub size : t.count ≡ length ts

  pub bare-holds : Holds [] bare
  unfolding bare flags_of
  bare-holds = record { led = apart-led; labels = fun_ext apart-labels; flags = refl; total = refl; size = refl }

  added-labels : (t : Tree) (e : ℕ) → EndsBelow stations_held (ends_at ends e) → Led t.forest
      → label_of (added ends sums t e).forest.leader ≡ merge (label_of t.forest.leader) (ends_at ends e)
  unfolding added
  added-labels t e w led = joined-labels t.forest (ends_at ends e).a (ends_at ends e).b led w.0 w.1

  added-holds : (ts : List ℕ) (t : Tree) (e : ℕ) → EndsBelow stations_held (ends_at ends e) → Holds ts t → Holds (ts ++ (e ∷ [])) (added ends sums t e)
  unfolding added flags_of
  added-holds ts t e w h =
      record {
        led = joined-led t.forest (ends_at ends e).a (ends_at ends e).b h.led w.0 w.1;
        labels = added-labels t e w h.led
            ∙ ap (λ (L : Labelling). merge L (ends_at ends e)) h.labels
            ∙ sym (ap (merge_all identity) (map-append (ends_at ends) ts (e ∷ [])) ∙ merge_all-append identity (map (ends_at ends) ts) (ends_at ends e ∷ []));
        flags = ap (λ (f : List Bool). with_flag f e) h.flags ∙ sym (foldl-append with_flag (replicate links_held false) ts (e ∷ []));
        total = let s = h.total in omega (arith, perm_laws.sum-append (sum_at sums) ts (e ∷ []));
        size = let s = h.size in omega (arith, length-append ts (e ∷ []));
      }

  -- a walk takes what Kruskal's method keeps
  pub grown-holds : (ts : List ℕ) (t : Tree) (l : List ℕ) → Near ends l → Holds ts t
      → Holds (ts ++ kruskal (ends_at ends) (label_of t.forest.leader) l) (foldl (linked ends sums) t l)
  unfolding kruskal linked
  grown-holds ts t [] near h = rw (append-nil ts) h
  grown-holds ts t (e ∷ l) near h =
      let w = near e (here refl) in
      let far : Near ends l = λ x m. near x (there m) in
      let L : Labelling = label_of t.forest.leader in
      by-test (crosses L (ends_at ends e))
      (λ c. rw c (subst (λ (M : Labelling). Holds (ts ++ e ∷ kruskal (ends_at ends) M l) (foldl (linked ends sums) (added ends sums t e) l))
      (added-labels t e w h.led)
      (rw append_snoc at (grown-holds (ts ++ (e ∷ [])) (added ends sums t e) l far (added-holds ts t e w h)))))
      (λ c. rw c (grown-holds ts t l far h))

-- what the program collects is what Kruskal's method keeps
pub kept-kruskal : (ends : List ℕ) (f : Forest) (l : List ℕ) → Led f → Near ends l → kept ends f l ≡ kruskal (ends_at ends) (label_of f.leader) l
unfolding kept kruskal
kept-kruskal ends f [] led near = refl
kept-kruskal ends f (e ∷ l) led near =
    let w = near e (here refl) in
    let far : Near ends l = λ x m. near x (there m) in
    let a = (ends_at ends e).a in
    let b = (ends_at ends e).b in
    by-test (crosses (label_of f.leader) (ends_at ends e))
    (λ c. rw c (ap (◌∷◌ e) (rw (← joined-labels f a b led w.0 w.1) (kept-kruskal ends (joined f a b) l (joined-led f a b led w.0 w.1) far))))
    (λ c. rw c (kept-kruskal ends f l led far))
