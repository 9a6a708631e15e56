-- THE THEOREM: the search over sets of exceptional links finds the best tree under the ceilings, for any number of stations, links and ceilings.
-- It may go over the links that one run of Kruskal's method keeps of the normal ones.
use Rattle.std.specs.Prelude.{Bool, ◌&&◌, ◌≡◌, refl, ℕ, suc, ℤ, pos, length}
use Rattle.std.proofs.Math.Bool.{cond}
use mathlib.Core.List.{List, [], ◌∷◌, map, ◌++◌}
use Rattle.std.proofs.Math.Option.{Option, none, some}
use Rattle.std.proofs.Math.Path.{ap, fun_ext}
use Rattle.std.proofs.Common.{◌∙◌, zero-add, arith}
use Rattle.std.proofs.Math.Nat.{suc_inj}
use Rattle.std.proofs.Math.Dec.{eqb}
use Rattle.order.proofs.Lists.{filter-all, filter-sublist}
use Rattle.order.specs.Order.{dictionary, orderℕ, orderℤ}
use Rattle.order.specs.Sorted.{ascending}
use Rattle.order.proofs.Least.{least-ext}
use Rattle.spanning.specs.Tree.{identity, is_forest}
use Rattle.spanning.proofs.Tree.{merge_all-keeps}
use Rattle.spanning.proofs.Kruskal.{kruskal-again}
use Rattle.spanning.proofs.Rising.{rising-sublist}
use Rattle.spanning.specs.Best.{by_cost}
use Rattle.spanning.proofs.Listing.{listing-iff, listing-length, listing-sorted}
use Rattle.frontier.specs.Dominance.{le_all}
use Rattle.frontier.specs.Frontier.{best}
use Rattle.kmax.specs.KMax.{kmax}
use Rattle.kmax.specs.Ceilings.{ceilings, meets, slack_of}
use Rattle.kmax.proofs.Ceilings.{ceilings-ranked, ceilings-slack}
use Rattle.kmax.specs.Subsets.{subsets}
use Rattle.kmax.specs.Search.{Trees, search_in}
use Rattle.kmax.proofs.Search.{search-leftmost, subsets-enough}
use Rattle.planning.specs.Graph.{Graph, Sound, completed, costs_from, exceptionals, links, normals, problem, total, under}
use Rattle.planning.specs.Graph.{search_sets, search_tree, sum_key, sum_order, tree_size, trees}
use Rattle.planning.proofs.Complete.{completes}
use Rattle.planning.specs.Search.{EnoughSets, base}

module _ (G : Graph) where
  open G use {stations, m, usable, ends, weight, cost, ks}

  -- to fit under bounds is to fit under the ceilings with these bounds
  pub fits_under : (i : ℕ) (js : List ℕ) (bs : List ℤ) → length bs ≡ length js → (ts : List ℕ)
      → meets orderℤ (ceilings cost i js bs) (pos 0) ts ≡ le_all orderℤ (costs_from G i js ts) bs
  fits_under i [] [] l ts = refl
  fits_under i [] (b ∷ bs) l ts = absurd (omega arith)
  fits_under i (k ∷ js) [] l ts = absurd (omega arith)
  fits_under i (k ∷ js) (b ∷ bs) l ts =
      ap (λ (t : Bool). orderℤ.le (kmax orderℤ k (map (cost i) ts) (pos 0)) b && t) (fits_under (suc i) js bs (suc_inj l) ts)

  -- the trees are what the search of `kmax` asks for
  pub trees-ranked : Sound G → (bs : List ℤ) → Trees (under G bs) (links G) (trees G)
  trees-ranked S bs =
      record {
        subsequence = λ ts k.
            let r = (listing-iff ends stations m usable S.some-station S.apart S.within ts).0 k in
            rw (← filter-all usable ts r.1) (filter-sublist usable (rising-sublist m 0 m ts (zero-add m) r.0));
        ranks = λ ts k. ceilings-ranked cost (length ts) 0 ks bs (λ j q.
            let r = S.ranks j q in
            let l = listing-length ends stations m usable ts k in
            (r.0, omega arith));
      }

  -- ---- a shorter list of candidates

  pub completed-base : (cs X : List ℕ) → completed G (base G cs) X ≡ completed G cs X
  unfolding completed
  completed-base cs X =
      ap (λ (more : List ℕ). cond (is_forest identity (map ends X) && eqb (length (X ++ more)) (tree_size G)) (some (ascending (X ++ more))) none)
      (kruskal-again ends cs (merge_all-keeps identity (map ends X)))

  -- ---- the theorem

  -- Whatever sets of exceptional links are tried, if they are enough, then the search finds the best tree: the one of least sum that fits, and of
  -- these the first in dictionary order
  pub search-sets : Sound G → (bs : List ℤ) → length bs ≡ length ks → (Xs : List (List ℕ)) → EnoughSets G bs Xs
      → search_sets G bs (by_cost weight (normals G bs)) Xs ≡ best (problem G) bs
  search-sets S bs l Xs E =
      search-leftmost orderℤ (pos 0) (under G bs) orderℤ (total G) (dictionary orderℕ) (λ ts. ts) (links G) (trees G)
      (trees-ranked S bs) (completes G S bs) Xs E (listing-sorted ends stations m usable)
      ∙ least-ext orderℤ (total G) (meets orderℤ (under G bs) (pos 0)) (λ ts. le_all orderℤ (costs_from G 0 ks ts) bs) (trees G)
      (λ ts k. fits_under 0 ks bs l ts)

  -- so does the search with the base for the normal links,
  pub search-base : (bs : List ℤ) (cs : List ℕ) (Xs : List (List ℕ)) → search_sets G bs (base G cs) Xs ≡ search_sets G bs cs Xs
  search-base bs cs Xs =
      ap (λ (complete : List ℕ → Option (List ℕ)). search_in orderℤ (under G bs) sum_order (sum_key G) complete Xs)
      (fun_ext (completed-base cs))

  -- the search through all sets in the order of `subsets`,
  pub search-best : Sound G → (bs : List ℤ) → length bs ≡ length ks → search_tree G bs ≡ best (problem G) bs
  search-best S bs l =
      search-sets S bs l (subsets (slack_of ks) (exceptionals G bs))
      (subsets-enough orderℤ (pos 0) (under G bs) sum_order (sum_key G) (links G) (trees G)
      (trees-ranked S bs) (slack_of ks) (ceilings-slack cost 0 ks bs))
