-- All spanning trees of a graph by edges that may be used, each once, in dictionary order: of the strictly rising lists of edge numbers, one fewer than
-- there are vertices, those that pass the test of such a tree.
-- The examples count those of the complete graphs of three and four vertices.
use Rattle.std.specs.Prelude.{Bool, false, ◌&&◌, not, List, [], ◌∷◌, map, ◌↔◌, ◌≡◌, refl, ℕ, ◌-◌, ◌<◌, length, get_or}
use Rattle.std.proofs.Math.Bool.{true}
use Rattle.std.proofs.Common.{◌∙◌}
use Rattle.std.proofs.Math.Dec.{eqb}
use Rattle.std.proofs.lemmas.List.{length-map}
use borrow.Author.Tests.{eqb-true, eq-eqb}
use Rattle.order.specs.Test.{by-test, left}
use Rattle.order.proofs.Test.{both, right, test_iff}
use Rattle.order.specs.Lists.{◌∈◌, all}
use Rattle.order.proofs.Lists.{all-mem, filter-mem, mem-all, mem-filter}
use Rattle.order.proofs.Perm.{pairwise-filter, perm-map, perm-sym}
use Rattle.order.specs.Order.{dictionary, orderℕ}
use Rattle.order.specs.Sorted.{Apart, Rising, ascending}
use Rattle.order.proofs.Sorted.{sort-mem, sort-perm}
use Rattle.spanning.specs.Labelling.{Edge, crosses, merge}
use Rattle.spanning.specs.Tree.{SpanningTree, Within, identity, is_forest, is_one_component, is_tree, is_tree_from}
use Rattle.spanning.proofs.Tree.{tree-perm}
use Rattle.spanning.proofs.Size.{is_forest-iff, is_tree-iff}
use Rattle.spanning.proofs.Count.{forest-spans}
use Rattle.spanning.specs.Kruskal.{kruskal}
use Rattle.spanning.specs.Rising.{Before, RisingIn, is_rising_in}
use Rattle.spanning.proofs.Rising.{is_rising_in-iff, rising-range}
use Rattle.spanning.specs.Choose.{choose, choose_from}
use Rattle.spanning.proofs.Choose.{choose-iff, choose-sorted}
use Rattle.spanning.specs.Best.{Usable, by_cost, whole}
use Rattle.spanning.proofs.Best.{ascending-rising, edges-length, edges-within, forest-apart}
use Rattle.spanning.specs.Listing.{is_listed, spanning_trees}

module _ (ends : ℕ → Edge) (vs : List ℕ) (m : ℕ) (usable : ℕ → Bool) where
  -- the test that the listed trees pass
  abbrev fine : List ℕ → Bool
  fine ts = all usable ts && is_tree vs (map ends ts)

  -- they are all there
  pub listing-iff : 0 < length vs → Apart (λ x. x) vs → ((c : ℕ) → c < m → usable c ≡ true → Within vs (ends c)) → (ts : List ℕ)
      → (ts ∈ spanning_trees ends vs m usable) ↔ (RisingIn 0 m ts × ((c : ℕ) → c ∈ ts → usable c ≡ true) × SpanningTree vs (map ends ts))
  unfolding spanning_trees
  listing-iff h apart within ts = (out, back)
    where
      out : ts ∈ spanning_trees ends vs m usable → RisingIn 0 m ts × ((c : ℕ) → c ∈ ts → usable c ≡ true) × SpanningTree vs (map ends ts)
      out k =
          let r = filter-mem fine (choose (length vs - 1) m) k in (
            ((choose-iff (length vs - 1) m ts).0 r.0).0,
            all-mem usable ts (left (all usable ts) (is_tree vs (map ends ts)) r.1),
            (is_tree-iff vs (map ends ts)).0 (right (all usable ts) (is_tree vs (map ends ts)) r.1),
          )

      back : RisingIn 0 m ts × ((c : ℕ) → c ∈ ts → usable c ≡ true) × SpanningTree vs (map ends ts) → ts ∈ spanning_trees ends vs m usable
      back p =
          let size = edges-length ends vs m usable h apart within ts (λ t k. ((rising-range 0 m ts p.0 t k).1, p.1 t k)) p.2 in
          mem-filter fine ((choose-iff (length vs - 1) m ts).1 (p.0, size)) (both (mem-all usable ts p.1) ((is_tree-iff vs (map ends ts)).1 p.2))

  pub is_listed-iff : (ts : List ℕ) → (is_listed ends vs m usable ts ≡ true) ↔ (ts ∈ spanning_trees ends vs m usable)
  unfolding is_listed spanning_trees
  is_listed-iff ts = (to, from)
    where
      to : eqb (length ts) (length vs - 1) && (is_rising_in 0 m ts && fine ts) ≡ true → ts ∈ spanning_trees ends vs m usable
      to e =
          let u = right (eqb (length ts) (length vs - 1)) (is_rising_in 0 m ts && fine ts) e in
          let l = eqb-true (length ts) (length vs - 1) (left (eqb (length ts) (length vs - 1)) (is_rising_in 0 m ts && fine ts) e) in
          let r = (is_rising_in-iff 0 m ts).0 (left (is_rising_in 0 m ts) (fine ts) u) in
          mem-filter fine ((choose-iff (length vs - 1) m ts).1 (r, l)) (right (is_rising_in 0 m ts) (fine ts) u)

      from : ts ∈ spanning_trees ends vs m usable → eqb (length ts) (length vs - 1) && (is_rising_in 0 m ts && fine ts) ≡ true
      from k =
          let f = filter-mem fine (choose (length vs - 1) m) k in
          let c = (choose-iff (length vs - 1) m ts).0 f.0 in
          both (eq-eqb (length ts) (length vs - 1) c.1) (both ((is_rising_in-iff 0 m ts).1 c.0) f.1)

  -- as many rising edges that may be used as a tree has are a tree where they have no ring
  pub listed-forest : 0 < length vs → Apart (λ x. x) vs → ((c : ℕ) → c < m → usable c ≡ true → Within vs (ends c)) → (ts : List ℕ) → is_rising_in 0 m ts ≡ true
      → length ts ≡ length vs - 1 → fine ts ≡ all usable ts && is_forest identity (map ends ts)
  listed-forest some apart within ts rises size =
      by-test (all usable ts)
      (λ u. rw u (test_iff (is_tree vs (map ends ts)) (is_forest identity (map ends ts)) (
        λ t. (is_forest-iff identity (map ends ts)).1 ((is_tree-iff vs (map ends ts)).0 t).forest,
        λ f.
            let ringless = (is_forest-iff identity (map ends ts)).0 f in
            let inside = edges-within ends vs m usable some apart within ts
            (λ t k. ((rising-range 0 m ts ((is_rising_in-iff 0 m ts).0 rises) t k).1, all-mem usable ts u t k)) in
            (is_tree-iff vs (map ends ts)).1 (forest-spans vs some apart (map ends ts) inside ringless (length-map ts ends ∙ size)),
      )))
      (λ u. rw u)

  -- with one edge fewer than there are vertices
  pub listing-length : (ts : List ℕ) → ts ∈ spanning_trees ends vs m usable → length ts ≡ length vs - 1
  unfolding spanning_trees
  listing-length ts k = ((choose-iff (length vs - 1) m ts).0 (filter-mem fine (choose (length vs - 1) m) k).0).1

  -- edges of a tree in any order are listed in rising order
  pub ascending-listed : 0 < length vs → Apart (λ x. x) vs → ((c : ℕ) → c < m → usable c ≡ true → Within vs (ends c)) → (ts : List ℕ)
      → ((t : ℕ) → t ∈ ts → Usable m usable t) → SpanningTree vs (map ends ts) → ascending ts ∈ spanning_trees ends vs m usable
  ascending-listed h apart within ts below t =
      (listing-iff h apart within (ascending ts)).1 (
        ascending-rising m ts (forest-apart ends identity ts t.forest) (λ x k. (below x k).0),
        λ x k. (below x (sort-mem orderℕ (λ x. x) ts k)).1,
        tree-perm (perm-map ends (perm-sym (sort-perm orderℕ (λ x. x) ts))) t,
      )

  -- each once, in dictionary order
  pub listing-sorted : Rising (dictionary orderℕ) (λ ts. ts) (spanning_trees ends vs m usable)
  unfolding spanning_trees
  listing-sorted = pairwise-filter fine Before (choose (length vs - 1) m) (choose-sorted (length vs - 1) m)

-- ---- examples

-- the edge i-j
edge : ℕ → ℕ → Edge
edge i j = record { a = i; b = j }

-- the edges 0-1, 0-2, 1-2 of a triangle, and with 0-3, 1-3, 2-3 those of the complete graph of four vertices
complete : ℕ → Edge
complete i = get_or (edge 0 1 ∷ edge 0 2 ∷ edge 1 2 ∷ edge 0 3 ∷ edge 1 3 ∷ edge 2 3 ∷ []) i (edge 0 0)

-- every edge may be used
any-edge : ℕ → Bool
any-edge c = true

-- edges that do not end at vertex 0 may be used
away : ℕ → Bool
away c = not (eqb (complete c).a 0)

-- two edges of the triangle are a tree, three are not, and one is not
triangle-two : is_tree (0 ∷ 1 ∷ 2 ∷ []) (edge 0 1 ∷ edge 2 1 ∷ []) ≡ true
unfolding is_tree is_tree_from is_forest is_one_component crosses merge edge
triangle-two = refl

triangle-three : is_tree (0 ∷ 1 ∷ 2 ∷ []) (edge 0 1 ∷ edge 2 1 ∷ edge 0 2 ∷ []) ≡ false
unfolding is_tree is_tree_from is_forest is_one_component crosses merge edge
triangle-three = refl

triangle-one : is_tree (0 ∷ 1 ∷ 2 ∷ []) (edge 0 1 ∷ []) ≡ false
unfolding is_tree is_tree_from is_forest is_one_component crosses merge edge
triangle-one = refl

triangle-trees : spanning_trees complete (0 ∷ 1 ∷ 2 ∷ []) 3 any-edge ≡ (0 ∷ 1 ∷ []) ∷ (0 ∷ 2 ∷ []) ∷ (1 ∷ 2 ∷ []) ∷ []
unfolding spanning_trees choose choose_from is_tree is_tree_from is_forest is_one_component crosses merge complete edge any-edge
triangle-trees = refl

four-vertices : length (spanning_trees complete (0 ∷ 1 ∷ 2 ∷ 3 ∷ []) 6 any-edge) ≡ 16
unfolding spanning_trees choose choose_from is_tree is_tree_from is_forest is_one_component crosses merge complete edge any-edge
four-vertices = refl

-- without vertex 0, and the edges that end there, a triangle is left
three-left : spanning_trees complete (1 ∷ 2 ∷ 3 ∷ []) 6 away ≡ (2 ∷ 4 ∷ []) ∷ (2 ∷ 5 ∷ []) ∷ (4 ∷ 5 ∷ []) ∷ []
unfolding spanning_trees choose choose_from is_tree is_tree_from is_forest is_one_component crosses merge complete edge away
three-left = refl

-- equal costs but for edge 0: the first tree without it
dear-first : ascending (whole complete (by_cost (λ c. get_or (9 ∷ []) c 5) (0 ∷ 1 ∷ 2 ∷ 3 ∷ 4 ∷ 5 ∷ [])) []) ≡ 1 ∷ 2 ∷ 3 ∷ []
unfolding kruskal crosses merge complete edge
dear-first = refl
