-- What the program keeps at each exception set is what the theory's search keeps: `Shows` ties the one to the other.
use Rattle.std.specs.Prelude.{ℕ, ◌≤◌, ◌<◌, Bool, cond, true, false, not, ◌&&◌, ◌||◌, ◌⊎◌, ◌≡◌, eqb, leb, ltb, ℤ}
use mathlib.Core.List.Memᴰ.{head as here}
use mathlib.Core.List.Memᴰ.{tail as there}
use mathlib.Core.List.{List, [], ◌∷◌, ◌++◌, append-nil, foldl, map}
use Rattle.std.proofs.Common.{inl, inr, ◌∙◌, arith}
use Rattle.std.proofs.Math.Option.{Option, none, some}
use Rattle.std.proofs.Math.Path.{refl, sym, ap, subst}
use Rattle.std.proofs.Math.ListN.{length}
use Rattle.std.proofs.Math.Seq.{append_snoc}
use borrow.Author.Tests.{eq-eqb, eqb-true, le-leb, le-ltb, lt-leb, lt-ltb, ne_eqb}
use Rattle.order.specs.Test.{by-test, clash}
use Rattle.order.specs.Lists.{◌∈◌}
use Rattle.order.specs.Perm as perm
use Rattle.order.proofs.Perm as perm_laws
use Rattle.order.specs.Order.{dictionary, dictionary_le, orderℕ, orderℤ, pair_le, pairs}
use Rattle.order.specs.Sorted.{Apart, ascending}
use Rattle.order.proofs.Sorted.{sort-perm}
use Rattle.order.specs.Least.{ranked}
use Rattle.spanning.specs.Labelling.{Labelling, crosses, merge}
use Rattle.spanning.specs.Tree.{identity, is_forest}
use Rattle.spanning.proofs.Size.{is_forest-iff}
use Rattle.spanning.specs.Kruskal.{kruskal}
use Rattle.spanning.proofs.Rising.{trichotomy}
use Rattle.spanning.specs.Best.{whole}
use Rattle.spanning.proofs.Best.{forest-apart, whole_below, whole-tree}
use Rattle.kmax.specs.Ceilings.{admissible}
use Rattle.kmax.specs.Search.{offer, search_in, try_one}
use Rattle.kmax.proofs.Search.{search-snoc}
use Rattle.planning.specs.Graph.{IsLink, completed, search_sets, total, under}
use Rattle.planning.proofs.Graph.{by-weight}
use Rattle.network.specs.Capacities.{links_held}
use Rattle.network.specs.Yard.{ends_at, graph, stations, sum_at, tree_size, usable}
use Rattle.network.specs.NetworkFine.{NetworkFine}
use Rattle.network.proofs.NetworkFine.{graph-sound}
use Rattle.network.specs.Network.{Network}
use Rattle.kruskal.specs.Tree.{bare, linked}
use Rattle.forest.specs.History.{Near}
use Rattle.kruskal.specs.Grown.{Holds, bare-holds, grown-holds}
use Rattle.kruskal.specs.Tree.{Tree}
use Rattle.search_trials.specs.Flags.{first, first-dictionary, flags-length, flags-rising, rising}
use Rattle.exceptions.specs.Patterns.{admitted}
use Rattle.search_trials.specs.Search.{beats, considered, nothing, offered, tried, tried_if}
use Rattle.search_trials.specs.Search.{Best}

-- ---- Kruskal's method keeps all of a list exactly where it is a forest

kruskal-few : (ends : List ℕ) (L : Labelling) (l : List ℕ) → length (kruskal (ends_at ends) L l) ≤ length l
unfolding kruskal
kruskal-few ends L [] = omega arith
kruskal-few ends L (e ∷ l) =
    by-test (crosses L (ends_at ends e))
    (λ c. rw c (omega (arith, kruskal-few ends (merge L (ends_at ends e)) l)))
    (λ c. rw c (omega (arith, kruskal-few ends L l)))

forest-kruskal : (ends : List ℕ) (L : Labelling) (l : List ℕ) → is_forest L (map (ends_at ends) l) ≡ true → kruskal (ends_at ends) L l ≡ l
unfolding kruskal is_forest
forest-kruskal ends L [] f = refl
forest-kruskal ends L (e ∷ l) f =
    by-test (crosses L (ends_at ends e))
    (λ c. rw c (ap (◌∷◌ e) (forest-kruskal ends (merge L (ends_at ends e)) l (rw c at f))))
    (λ c. clash (rw c at f) refl)

ring-kruskal : (ends : List ℕ) (L : Labelling) (l : List ℕ) → is_forest L (map (ends_at ends) l) ≡ false → length (kruskal (ends_at ends) L l) < length l
unfolding kruskal is_forest
ring-kruskal ends L [] f = clash refl f
ring-kruskal ends L (e ∷ l) f =
    by-test (crosses L (ends_at ends e))
    (λ c. rw c (omega (arith, ring-kruskal ends (merge L (ends_at ends e)) l (rw c at f))))
    (λ c. rw c (omega (arith, kruskal-few ends L l)))

-- ---- the better of two trees

-- a smaller sum, or the same sum and the test t: by two comparisons, or by one
sum_first : (x y : ℕ) (t : Bool) → leb y x && (not (leb x y) || not t) ≡ not (ltb x y || (eqb x y && t))
sum_first x y t = go (trichotomy x y)
  where
    go : (x < y) ⊎ ((x ≡ y) ⊎ (y < x)) → leb y x && (not (leb x y) || not t) ≡ not (ltb x y || (eqb x y && t))
    go (inl h) = rw (lt-leb y x h, lt-ltb x y h)
    go (inr (inl q)) = rw (le-leb y x (omega arith), le-leb x y (omega arith), le-ltb x y (omega arith), eq-eqb x y q)
    go (inr (inr h)) = rw (le-leb y x (omega arith), lt-leb x y h, le-ltb x y (omega arith), ne_eqb x y (λ q. omega arith))

-- b is the tree, if any: its sum and its flags
pub data Shows (s : ℕ → ℕ) (goal : ℕ) : Option (List ℕ) → Best → Type 0 where
  none-shown : {b : Best} → b.found ≡ false → Shows s goal none b
  tree-shown : {ts : List ℕ} {b : Best} → b.found ≡ true → b.sum ≡ perm.sum s ts → rising 0 b.taken ≡ ts → length b.taken ≡ links_held → length ts ≡ goal
      → Shows s goal (some ts) b

module _ (net : Network) (fine : NetworkFine net) where
  -- the network's ends
  abbrev ends : List ℕ
  ends = net.ends

  -- a link's raised sum cost
  abbrev s : ℕ → ℕ
  s = sum_at net.sums

  -- the links of a tree
  abbrev goal : ℕ
  goal = tree_size net

  -- the better of two trees in the theory's search
  abbrev better : Option (List ℕ) → Option (List ℕ) → Option (List ℕ)
  better = offer (pairs orderℤ (dictionary orderℕ)) (ranked (total (graph net)) (λ ts. ts))

  -- one more tree us, held by u, offered where it has `goal` links: to the theory's search, and to the program's
  offer-shown : (o : Option (List ℕ)) (b : Best) (us : List ℕ) (u : Tree) → Shows s goal o b → Holds ends net.sums us u
      → (length us ≡ goal → Apart (λ x. x) us) → ((x : ℕ) → x ∈ us → x < links_held)
      → Shows s goal (better o (cond (eqb (length us) goal) (some (ascending us)) none)) (offered goal b u)
  unfolding offered beats
  offer-shown o b us u shown h apart below =
      by-test (eqb (length us) goal)
      (λ e. rw (h.size, e) (go o shown (eqb-true (length us) goal e)))
      (λ e. rw (h.size, e) shown)
    where
      new : length us ≡ goal → Shows s goal (some (ascending us)) (record { found = true; sum = u.sum; taken = u.taken })
      new l =
          tree-shown refl
          (h.total ∙ sym (perm_laws.sum-perm s (sort-perm orderℕ (λ x. x) us)))
          (ap (rising 0) h.flags ∙ flags-rising us (apart l) below)
          (ap length h.flags ∙ flags-length us)
          (perm_laws.perm-length (sort-perm orderℕ (λ x. x) us) ∙ l)

      -- the two comparisons
      compared : (ys : List ℕ) → Shows s goal (some ys) b → length us ≡ goal
          → pair_le orderℤ (dictionary orderℕ) (total (graph net) ys, ys) (total (graph net) (ascending us), ascending us)
          ≡ not (ltb u.sum b.sum || (eqb u.sum b.sum && first u.taken b.taken))
      compared ys (tree-shown f q r w g) l =
          let mine = ap (rising 0) h.flags ∙ flags-rising us (apart l) below in
          let sizes : length (rising 0 u.taken) ≡ length (rising 0 b.taken) =
          ap length mine ∙ perm_laws.perm-length (sort-perm orderℕ (λ x. x) us) ∙ l ∙ sym g ∙ sym (ap length r) in
          let lists : dictionary_le orderℕ ys (ascending us) ≡ not (first u.taken b.taken) =
          subst (λ (v : List ℕ). dictionary_le orderℕ v (ascending us) ≡ not (first u.taken b.taken)) r
          (subst (λ (v : List ℕ). dictionary_le orderℕ (rising 0 b.taken) v ≡ not (first u.taken b.taken)) mine
          (first-dictionary 0 u.taken b.taken (ap length h.flags ∙ flags-length us ∙ sym w) sizes)) in
          by-weight (graph net) (graph-sound net fine) ys (ascending us) (g ∙ sym l ∙ sym (perm_laws.perm-length (sort-perm orderℕ (λ x. x) us)))
          ∙ rw (lists, perm_laws.sum-perm s (sort-perm orderℕ (λ x. x) us), ← h.total, ← q) (sum_first u.sum b.sum (first u.taken b.taken))

      go : (o : Option (List ℕ)) → Shows s goal o b → length us ≡ goal
          → Shows s goal (better o (some (ascending us))) (cond (beats u b) (record { found = true; sum = u.sum; taken = u.taken }) b)
      go none (none-shown f) l = rw f (new l)
      go (some ys) (tree-shown f q r w g) l =
          let old : Shows s goal (some ys) b = tree-shown f q r w g in
          by-test (ltb u.sum b.sum || (eqb u.sum b.sum && first u.taken b.taken))
          (λ e. rw (f, compared ys old l, e) (new l))
          (λ e. rw (f, compared ys old l, e) (tree-shown refl q r w g))

  -- usable links join stations
  pub near : (l : List ℕ) → ((e : ℕ) → e ∈ l → IsLink (graph net) e) → Near ends l
  near l below e k =
      let few = fine.few-stations in
      (omega (arith, fine.first-end e (below e k).0), omega (arith, fine.second-end e (below e k).0))

  -- ---- one exception set, under ceilings that the ranks ks and the patterns stand for

  module _ (bs : List ℤ) (ks patterns base : List ℕ) (base-below : (e : ℕ) → e ∈ base → IsLink (graph net) e)
      (agree : (X : List ℕ) → ((x : ℕ) → x ∈ X → IsLink (graph net) x) → admitted ks patterns X ≡ admissible orderℤ (under (graph net) bs) X) where
    -- the theory's search tries one set
    abbrev try : Option (List ℕ) → List ℕ → Option (List ℕ)
    try = try_one orderℤ (under (graph net) bs) (pairs orderℤ (dictionary orderℕ)) (ranked (total (graph net)) (λ ts. ts)) (completed (graph net) base)

    -- the program's walk over links
    abbrev grow : Tree → List ℕ → Tree
    grow = foldl (linked ends net.sums)

    -- the forest of X alone
    alone : (X : List ℕ) → ((x : ℕ) → x ∈ X → IsLink (graph net) x) → Holds ends net.sums (kruskal (ends_at ends) identity X) (grow bare X)
    alone X below =
        subst (λ (L : Labelling). Holds ends net.sums (kruskal (ends_at ends) L X) (grow bare X)) (bare-holds ends net.sums).labels
        (grown-holds ends net.sums [] bare X (near X below) (bare-holds ends net.sums))

    -- and with what the base adds to it
    grown : (X : List ℕ) → ((x : ℕ) → x ∈ X → IsLink (graph net) x) → is_forest identity (map (ends_at ends) X) ≡ true
        → Holds ends net.sums (whole (ends_at ends) base X) (grow (grow bare X) base)
    grown X below f =
        let a : Holds ends net.sums X (grow bare X) =
        subst (λ (ts : List ℕ). Holds ends net.sums ts (grow bare X)) (forest-kruskal ends identity X f) (alone X below) in
        subst (λ (L : Labelling). Holds ends net.sums (X ++ kruskal (ends_at ends) L base) (grow (grow bare X) base)) a.labels
        (grown-holds ends net.sums X (grow bare X) base (near base base-below) a)

    whole-links : (X : List ℕ) → ((x : ℕ) → x ∈ X → IsLink (graph net) x) → (x : ℕ) → x ∈ whole (ends_at ends) base X → x < links_held
    whole-links X below x k =
        let sound = graph-sound net fine in
        let link =
        whole_below (ends_at ends) (stations net) net.m (usable net) sound.some-station sound.apart sound.within base X base-below below x k in
        omega (arith, link.0, fine.few-links)

    whole_apart : (X : List ℕ) → ((x : ℕ) → x ∈ X → IsLink (graph net) x) → is_forest identity (map (ends_at ends) X) ≡ true
        → length (whole (ends_at ends) base X) ≡ goal → Apart (λ x. x) (whole (ends_at ends) base X)
    whole_apart X below f l =
        let sound = graph-sound net fine in
        let tree =
        whole-tree (ends_at ends) (stations net) net.m (usable net) sound.some-station sound.apart sound.within base X base-below below in
        forest-apart (ends_at ends) identity (whole (ends_at ends) base X) (tree.1 ((is_forest-iff identity (map (ends_at ends) X)).0 f, l)).forest

    step : (o : Option (List ℕ)) (b : Best) (X : List ℕ) → ((x : ℕ) → x ∈ X → IsLink (graph net) x) → Shows s goal o b
        → Shows s goal (try o X) (considered ends net.sums goal ks patterns base b X)
    unfolding tried tried_if completed
    step o b X below shown =
        by-test (admissible orderℤ (under (graph net) bs) X)
        (λ e. by-test (is_forest identity (map (ends_at ends) X))
        (λ f. let count : (grow bare X).count ≡ length X = (alone X below).size ∙ ap length (forest-kruskal ends identity X f) in
        rw (agree X below, e, f, eq-eqb (grow bare X).count (length X) count)
        (offer-shown o b (whole (ends_at ends) base X) (grow (grow bare X) base) shown (grown X below f) (whole_apart X below f) (whole-links X below)))
        (λ f. let count : (grow bare X).count ≡ length X → ⊥ = λ q. omega (arith, (alone X below).size, ring-kruskal ends identity X f) in
        rw (agree X below, e, f, ne_eqb (grow bare X).count (length X) count) shown))
        (λ e. rw (agree X below, e) shown)

    -- ---- all of them

    pub fold-shown : (Xs : List (List ℕ)) → ((X : List ℕ) → X ∈ Xs → (x : ℕ) → x ∈ X → IsLink (graph net) x) → (o : Option (List ℕ)) (b : Best)
        → Shows s goal o b → Shows s goal (foldl try o Xs) (foldl (considered ends net.sums goal ks patterns base) b Xs)
    fold-shown [] below o b shown = shown
    fold-shown (X ∷ Xs) below o b shown =
        fold-shown Xs (λ Y m. below Y (there m)) (try o X) (considered ends net.sums goal ks patterns base b X) (step o b X (below X (here refl)) shown)

    fold-search : (Ys Xs : List (List ℕ)) → foldl try (search_sets (graph net) bs base Ys) Xs ≡ search_sets (graph net) bs base (Ys ++ Xs)
    fold-search Ys [] = ap (search_sets (graph net) bs base) (sym (append-nil Ys))
    fold-search Ys (X ∷ Xs) =
        ap (λ (o : Option (List ℕ)). foldl try o Xs)
        (sym (search-snoc orderℤ (under (graph net) bs) (pairs orderℤ (dictionary orderℕ)) (ranked (total (graph net)) (λ ts. ts))
        (completed (graph net) base) Ys X))
        ∙ fold-search (Ys ++ (X ∷ [])) Xs ∙ ap (search_sets (graph net) bs base) (append_snoc Ys X Xs)

    -- what the program keeps after the sets Xs is what the theory's search finds among them
    pub search-shown : (Xs : List (List ℕ)) → ((X : List ℕ) → X ∈ Xs → (x : ℕ) → x ∈ X → IsLink (graph net) x)
        → Shows s goal (search_sets (graph net) bs base Xs) (foldl (considered ends net.sums goal ks patterns base) nothing Xs)
    unfolding nothing search_in
    search-shown Xs below =
        subst (λ (o : Option (List ℕ)). Shows s goal o (foldl (considered ends net.sums goal ks patterns base) nothing Xs)) (fold-search [] Xs)
        (fold-shown Xs below none nothing (none-shown refl))
