-- The search for the best tree under ceilings: try every admissible set X of exceptional edges, complete X by normal edges, keep the best.
-- What is asked of the completion is `Completes`.
use Rattle.std.specs.Prelude.{true, ◌≡◌, ℕ, ◌≤◌}
use mathlib.Core.List.{List, [], ◌∷◌, ◌++◌, append-nil}
use Rattle.std.proofs.Math.Option.{Option, none, some}
use Rattle.std.proofs.Math.Path.{refl}
use Rattle.std.proofs.Common.{sym, ap, ◌∙◌, arith}
use Rattle.order.specs.Test.{by-test, clash}
use Rattle.order.proofs.Test.{fails}
use Rattle.order.specs.Lists.{◌∈◌, filter, map_some, prepend}
use Rattle.order.proofs.Lists.{filter-append, filter-mem, filter-sublist, map_some-append, map_some-mem, mem-filter, mem-map_some}
use Rattle.order.specs.Order.{TotalOrder, pairs}
use Rattle.order.proofs.Order.{le_refl}
use Rattle.order.specs.Sorted.{Rising}
use Rattle.order.specs.Least.{IsLeast, least, ranked}
use Rattle.order.proofs.Least.{least-none, least-snoc, least-some, least-tie, none-least}
use Rattle.kmax.specs.Ceilings.{Ceiling, admissible, exceptional, meets, slack}
use Rattle.kmax.proofs.Ceilings.{meets-admissible, meets-few}
use Rattle.kmax.specs.Subsets.{subsets}
use Rattle.kmax.proofs.Subsets.{subsets-complete, subsets-sound}
use Rattle.kmax.specs.Search.{Completes, Enough, Trees, offer, search_in, try_one}

-- ---- the search as a loop: one more set

module _ {C K : Type 0} (O : TotalOrder C) (cs : List (Ceiling C)) (Q : TotalOrder K) (key : List ℕ → K) (complete : List ℕ → Option (List ℕ)) where
  least-offer : (Ts : List (List ℕ)) (o : Option (List ℕ)) → least Q key (λ T. true) (Ts ++ prepend o []) ≡ offer Q key (least Q key (λ T. true) Ts) o
  least-offer Ts none = ap (least Q key (λ T. true)) (append-nil Ts)
  least-offer Ts (some T) = least-snoc Q key (λ T. true) Ts T

  pub search-snoc : (Xs : List (List ℕ)) (X : List ℕ) → search_in O cs Q key complete (Xs ++ (X ∷ []))
      ≡ try_one O cs Q key complete (search_in O cs Q key complete Xs) X
  unfolding search_in
  search-snoc Xs X =
      let tried = filter (admissible O cs) Xs in
      by-test (admissible O cs X)
      (λ e. rw (filter-append (admissible O cs) Xs (X ∷ []), e, map_some-append complete tried (X ∷ [])) (least-offer (map_some complete tried) (complete X)))
      (λ e. rw (filter-append (admissible O cs) Xs (X ∷ []), e, append-nil tried))

-- ---- the search finds the best tree that fits

module _ {C K : Type 0} (O : TotalOrder C) (d : C) (cs : List (Ceiling C)) (Q : TotalOrder K) (key : List ℕ → K)
    {complete : List ℕ → Option (List ℕ)} (edges : List ℕ) (trees : List (List ℕ)) (Ts : Trees cs edges trees) (G : Completes O cs Q key complete edges trees)
    (Xs : List (List ℕ)) (E : Enough O d cs Q key edges trees Xs) where
  -- the sets that are completed
  tried : List (List ℕ)
  tried = filter (admissible O cs) Xs

  -- a completion of an admissible set is a tree that fits
  completion-fits : (T : List ℕ) → T ∈ map_some complete tried → (T ∈ trees) × (meets O cs d T ≡ true)
  unfolding tried
  completion-fits T m =
      let c = map_some-mem complete tried m in
      let a = filter-mem (admissible O cs) Xs c.1 in
      let s = G.sound c.0 T (E.sound c.0 a.0) c.2 in
      (s.0, rw (meets-admissible O d cs T (Ts.ranks T s.0), s.1) a.1)

  -- and for each tree that fits there is one that is no worse
  completion-better : (T : List ℕ) → T ∈ trees → meets O cs d T ≡ true → (U : List ℕ) × (U ∈ map_some complete tried) × (Q.le (key U) (key T) ≡ true)
  unfolding tried
  completion-better T m f =
      let u = E.covers T m f in
      let X = filter (exceptional O cs) u.0 in
      let k = G.optimal X u.0 u.1 refl in
      let i = mem-filter (admissible O cs) u.4 (sym (meets-admissible O d cs u.0 (Ts.ranks u.0 u.1)) ∙ u.2) in
      (k.0, mem-map_some complete i k.1, Q.le_trans (key k.0) (key u.0) (key T) k.2 u.3)

  -- the tree found is a tree that fits, and no tree that fits is better
  pub search-some : (T : List ℕ) → search_in O cs Q key complete Xs ≡ some T → IsLeast Q key (meets O cs d) trees T
  unfolding search_in tried
  search-some T e =
      let i = least-some Q key (λ T. true) (map_some complete tried) T e in
      let c = completion-fits T i.member in
      record {
        member = c.0;
        passes = c.1;
        lowest = λ U m f. let t = completion-better U m f in Q.le_trans (key T) (key t.0) (key U) (i.lowest t.0 t.1 refl) t.2;
      }

  -- none found: no tree fits
  pub search-none : search_in O cs Q key complete Xs ≡ none → (T : List ℕ) → T ∈ trees → meets O cs d T ≡ true → ⊥
  unfolding search_in tried
  search-none e T m f = let t = completion-better T m f in clash refl (least-none Q key (λ T. true) (map_some complete tried) e t.1)

-- ---- with ties broken by an order in which all trees stand, the search finds the leftmost cheapest tree that fits

module _ {B C K : Type 0} (O : TotalOrder C) (d : C) (cs : List (Ceiling C)) (cheaper : TotalOrder B) (f : List ℕ → B) (Q : TotalOrder K) (key : List ℕ → K)
    {complete : List ℕ → Option (List ℕ)} (edges : List ℕ) (trees : List (List ℕ)) (Ts : Trees cs edges trees)
    (G : Completes O cs (pairs cheaper Q) (ranked f key) complete edges trees) where
  pub search-leftmost : (Xs : List (List ℕ)) → Enough O d cs (pairs cheaper Q) (ranked f key) edges trees Xs → Rising Q key trees
      → search_in O cs (pairs cheaper Q) (ranked f key) complete Xs ≡ least cheaper f (meets O cs d) trees
  search-leftmost Xs E s = go (search_in O cs (pairs cheaper Q) (ranked f key) complete Xs) refl
    where
      go : (o : Option (List ℕ)) → search_in O cs (pairs cheaper Q) (ranked f key) complete Xs ≡ o → o ≡ least cheaper f (meets O cs d) trees
      go none e =
          sym (none-least cheaper f (meets O cs d) trees (λ T m. fails (meets O cs d T) (λ k.
          search-none O d cs (pairs cheaper Q) (ranked f key) edges trees Ts G Xs E e T m k)))
      go (some T) e =
          sym (least-tie cheaper f Q key (meets O cs d) trees s T (search-some O d cs (pairs cheaper Q) (ranked f key) edges trees Ts G Xs E T e))

-- ---- all sets of at most r elements are enough

module _ {C K : Type 0} (O : TotalOrder C) (d : C) (cs : List (Ceiling C)) (Q : TotalOrder K) (key : List ℕ → K) (edges : List ℕ) (trees : List (List ℕ))
    (Ts : Trees cs edges trees) where
  pub subsets-enough : (r : ℕ) → slack cs ≤ r → Enough O d cs Q key edges trees (subsets r (filter (exceptional O cs) edges))
  subsets-enough r enough =
      record {
        sound = λ X m. (subsets-sound r (filter (exceptional O cs) edges) m).0;
        covers = λ T m f. let few = meets-few O d cs T (Ts.ranks T m) f in
            (T, m, f, le_refl Q (key T), subsets-complete r (filter-sublist (exceptional O cs) (Ts.subsequence T m)) (omega arith));
      }
