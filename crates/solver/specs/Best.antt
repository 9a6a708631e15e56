-- THE THEOREM: the program's search finds the best tree of document 01.
use Rattle.std.specs.Prelude.{ℕ, ◌<◌, Bool, true, ◌&&◌, ◌≡◌, eqb, ℤ, length}
use Rattle.std.proofs.Math.Bool.{not}
use mathlib.Core.List.Memᴰ
use mathlib.Core.List.{List, [], ◌∷◌, Sublistᴰ}
use Rattle.std.proofs.Math.Path.{sym, ap, fun_ext}
use Rattle.std.proofs.Common.{◌∙◌, subst, arith}
use borrow.Author.Tests.{not-false, not-true}
use Rattle.order.specs.Test.{left}
use Rattle.order.proofs.Test.{both, right}
use Rattle.order.specs.Lists.{◌∈◌, ◌⊆◌, filter, numbers_from}
use Rattle.order.proofs.Lists.{filter-mem, mem-filter, sublist-⊆}
use Rattle.order.specs.Order.{orderℕ, orderℤ, pairs}
use Rattle.order.proofs.Perm.{pairwise-filter, pairwise-imp, pairwise-sublist}
use Rattle.order.specs.Sorted.{Apart, Rising}
use Rattle.order.proofs.Sorted.{mem-numbers, numbers-rising, rising-apart, sort-mem, sublist-rising}
use Rattle.order.specs.Least.{ranked}
use Rattle.spanning.specs.Labelling.{Labelling}
use Rattle.spanning.specs.Tree.{identity}
use Rattle.spanning.specs.Kruskal.{kruskal}
use Rattle.spanning.proofs.Kruskal.{greedy-⊆, kruskal-greedy}
use Rattle.spanning.specs.Best.{by_cost}
use Rattle.kmax.specs.Ceilings.{Ceiling, admissible, exceptional}
use Rattle.kmax.specs.Pattern.{lone}
use Rattle.kmax.specs.Digits.{admits, marked}
use Rattle.planning.specs.Graph.{IsLink, exceptionals, links, normals, search_sets, under}
use Rattle.planning.proofs.Complete.{link-below, links-rising}
use Rattle.planning.specs.Search.{EnoughSets, base}
use Rattle.planning.proofs.Search.{search-base, search-sets}
use Rattle.planning.specs.Patterns.{KeptLink, has, keeps}
use Rattle.planning.proofs.Patterns.{kept-enough}
use Rattle.network.specs.Yard.{best, ends_at, graph, ranks, sum_at, tree_size, usable}
use Rattle.network.specs.NetworkFine.{NetworkFine}
use Rattle.network.proofs.NetworkFine.{graph-sound}
use Rattle.network.specs.Network.{Network}
use Rattle.forest.specs.Groups.{apart, apart-labels, apart-led}
use Rattle.kruskal_order.specs.ByCost.{link_order}
use Rattle.kruskal_order.specs.Usable.{usable-apart, usable-below, usable-joins, usable_of, usable_order}
use Rattle.kruskal.specs.Base.{kept}
use Rattle.kruskal.specs.Grown.{kept-kruskal}
use Rattle.solver.specs.Filter.{filter-ext, filter-sort}
use Rattle.search_trials.specs.Sets.{trials, trials-among, trials-complete, trials-sound}
use Rattle.exceptions.specs.Patterns.{admitted, normal, pattern_at}
use Rattle.exceptions.specs.OfNetwork.{net-admitted, net-normal, net-pattern, net-patterned, net_patterns}
use Rattle.exceptions.specs.Keep.{exceptions-of, exceptions-sublist, kept-exceptions, kept_exceptions, pattern-known}
use Rattle.search_trials.specs.Search.{best_of}
use Rattle.solver.specs.OfNetwork.{net_best, order_of}
use Rattle.solver.specs.Found.{Shows, near, search-shown}

-- links have different numbers, and so different places in the order
links-apart : (s : ℕ → ℕ) (m : ℕ) → Apart (ranked s (λ c. c)) (numbers_from m 0)
links-apart s m =
    pairwise-imp (λ x y h q. h (ap (λ (k : ℕ × ℕ). k.1) q)) (numbers_from m 0)
    (rising-apart orderℕ (λ x. x) (numbers_from m 0) (numbers-rising m 0))

module _ (net : Network) (fine : NetworkFine net) (bs : List ℤ) (each : length bs ≡ net.p) where
  -- the ceilings
  abbrev cs : List (Ceiling ℤ)
  cs = under (graph net) bs

  -- a link of the graph is usable
  usable-link : (e : ℕ) → e ∈ links (graph net) → IsLink (graph net) e
  usable-link = link-below (graph net) (graph-sound net fine)

  -- the order of the usable links is that of the graph's links, and holds no other
  order-links : order_of net ≡ by_cost (sum_at net.sums) (links (graph net))
  unfolding link_order usable_of usable_order
  order-links =
      let s = sum_at net.sums in
      ap (λ (m : ℕ). filter (usable net) (by_cost s (numbers_from m 0))) fine.sum-count
      ∙ filter-sort (pairs orderℕ orderℕ) (ranked s (λ c. c)) (usable net) (numbers_from net.m 0) (links-apart s net.m)

  order-within : (x : ℕ) → x ∈ order_of net → IsLink (graph net) x
  order-within x k =
      (omega (arith, usable-below net.rest net.ends net.sums x k, fine.sum-count), usable-joins net.rest net.ends net.sums x k)

  -- ---- what the program keeps of the normal links, and of the exceptions

  -- links by cost are links
  passing : (q : ℕ → Bool) (e : ℕ) → e ∈ by_cost (sum_at net.sums) (filter q (links (graph net))) → e ∈ filter q (links (graph net))
  passing q e k = sort-mem (pairs orderℕ orderℕ) (ranked (sum_at net.sums) (λ c. c)) (filter q (links (graph net))) k

  candidate : (q : ℕ → Bool) (e : ℕ) → e ∈ by_cost (sum_at net.sums) (filter q (links (graph net))) → IsLink (graph net) e
  candidate q e k = usable-link e (filter-mem q (links (graph net)) (passing q e k)).0

  -- where the program's test p of a link is the theory's q
  kept-links : (p q : ℕ → Bool) → ((e : ℕ) → e < net.m → p e ≡ q e)
      → kept net.ends apart (filter p (order_of net)) ≡ base (graph net) (by_cost (sum_at net.sums) (filter q (links (graph net))))
  kept-links p q h =
      let s = sum_at net.sums in
      let own = pairwise-filter (usable net) _ (numbers_from net.m 0) (links-apart s net.m) in
      ap (kept net.ends apart)
      (filter-ext p q (order_of net) (λ e k. h e (order-within e k).0)
      ∙ ap (filter q) order-links
      ∙ filter-sort (pairs orderℕ orderℕ) (ranked s (λ c. c)) q (links (graph net)) own)
      ∙ kept-kruskal net.ends apart (by_cost s (filter q (links (graph net)))) apart-led (near net fine _ (candidate q))
      ∙ ap (λ (L : Labelling). kruskal (ends_at net.ends) L (by_cost s (filter q (links (graph net))))) (fun_ext apart-labels)

  -- the links that are kept of the normal ones,
  abbrev cheapest : List ℕ
  cheapest = base (graph net) (by_cost (sum_at net.sums) (normals (graph net) bs))

  base-links : kept net.ends apart (filter (normal (net_patterns net bs)) (order_of net)) ≡ cheapest
  base-links = kept-links (normal (net_patterns net bs)) (λ e. not (exceptional orderℤ cs e)) (net-normal net fine bs each)

  kept-below : (q : ℕ → Bool) (e : ℕ) → e ∈ base (graph net) (by_cost (sum_at net.sums) (filter q (links (graph net)))) → IsLink (graph net) e
  kept-below q e k = candidate q e (greedy-⊆ (ends_at net.ends) (kruskal-greedy (ends_at net.ends) identity _) e k)

  -- and of the exceptions, pattern by pattern
  abbrev odd : List ℕ
  odd = kept_exceptions net.ends (net_patterns net bs) (ranks net) (order_of net)

  -- ---- the sets that the program tries are enough

  -- they stand in their order among the links
  odd-sublist : Sublistᴰ odd (order_of net)
  odd-sublist = exceptions-sublist net.m net.ends (ranks net) (net_patterns net bs) (order_of net) (net-patterned net fine bs each)

  odd-among : odd ⊆ order_of net
  odd-among = sublist-⊆ odd-sublist

  odd-below : (x : ℕ) → x ∈ odd → IsLink (graph net) x
  odd-below x k = order-within x (odd-among x k)

  -- no link is there twice
  odd-apart : Apart (λ x. x) odd
  odd-apart = pairwise-sublist (λ x y. ¬ (y ≡ x)) odd-sublist (usable-apart net.rest net.ends net.sums)

  -- each is above some bound, and may be in a tree all the same
  odd-exceptional : odd ⊆ exceptionals (graph net) bs
  unfolding normal
  odd-exceptional x k =
      let known =
      kept-exceptions net.m net.ends (ranks net) (net_patterns net bs) (order_of net) (net-patterned net fine bs each)
      (λ e i. (order-within e i).0) in
      let above = sym (net-normal net fine bs each x (odd-below x k).0) ∙ not-true _ (known.above x k) in
      let link = mem-filter (usable net) (mem-numbers net.m 0 x (omega arith) (omega (arith, (odd-below x k).0))) (odd-below x k).1 in
      mem-filter (exceptional orderℤ cs) link (not-false _ above)

  -- what the program keeps of one pattern is what the theory keeps of it
  pattern-links : (q : ℕ) → kept net.ends apart (filter (λ e. eqb (pattern_at (net_patterns net bs) e) q) (order_of net))
      ≡ keeps (graph net) bs q
  pattern-links q =
      kept-links (λ e. eqb (pattern_at (net_patterns net bs) e) q) (has (graph net) bs q)
      (λ e h. ap (λ (p : ℕ). eqb p q) (net-pattern net fine bs each e h))

  -- a link that needs to be tried may be an exception
  needed-fit : (x : ℕ) → x < net.m → lone orderℤ cs x ≡ true
      → marked (pattern_at (net_patterns net bs) x) && admits (ranks net) (pattern_at (net_patterns net bs) x ∷ []) ≡ true
  unfolding normal admitted
  needed-fit x h e =
      let above = left (exceptional orderℤ cs x) (admissible orderℤ cs (x ∷ [])) e in
      let alone = right (exceptional orderℤ cs x) (admissible orderℤ cs (x ∷ [])) e in
      let one = net-admitted net fine bs each (x ∷ []) (λ y m. rw (Memᴰ.eq_of_singleton m) h) in
      both (ap not (net-normal net fine bs each x h ∙ ap not above)) (one ∙ alone)

  -- and so it is among those that the program tries
  needed : (x : ℕ) → x < net.m → KeptLink (graph net) bs x → x ∈ odd
  needed x h K =
      let q = pattern_at (net_patterns net bs) x in
      let own = exceptions-of net.m net.ends (ranks net) (net_patterns net bs) (order_of net) (net-patterned net fine bs each) q
      (pattern-known net.m (ranks net) (net_patterns net bs) (net-patterned net fine bs each) x h) (needed-fit x h K.alone) in
      let kept : x ∈ keeps (graph net) bs q = subst (λ (p : ℕ). x ∈ keeps (graph net) bs p) (sym (net-pattern net fine bs each x h)) K.kept in
      let there : x ∈ filter (λ e. eqb (pattern_at (net_patterns net bs) e) q) odd =
      subst (λ (l : List ℕ). x ∈ l) (sym (own ∙ pattern-links q)) kept in
      (filter-mem (λ e. eqb (pattern_at (net_patterns net bs) e) q) odd there).0

  -- the links above some bound stand in rising order
  above-rising : Rising orderℕ (λ x. x) (exceptionals (graph net) bs)
  above-rising = pairwise-filter (exceptional orderℤ cs) _ (links (graph net)) (links-rising (graph net) (graph-sound net fine))

  enough : EnoughSets (graph net) bs (trials odd)
  enough =
      kept-enough (graph net) (graph-sound net fine) bs (trials odd)
      (trials-sound (exceptionals (graph net) bs) odd above-rising
      odd-apart odd-exceptional)
      (λ X sub short K.
      trials-complete odd X
      (sublist-rising orderℕ (λ x. x) sub above-rising)
      (λ x m. needed x (usable-link x (filter-mem (exceptional orderℤ cs) (links (graph net)) (sublist-⊆ sub x m)).0).0 (K x m))
      (omega (arith, fine.few-exceptions)))

  trials-best : search_sets (graph net) bs cheapest (trials odd) ≡ best net bs
  trials-best =
      search-base (graph net) bs (by_cost (sum_at net.sums) (normals (graph net) bs)) (trials odd)
      ∙ search-sets (graph net) (graph-sound net fine) bs (each ∙ sym fine.rank-count) (trials odd) enough

  pub best-shown : Shows (sum_at net.sums) (tree_size net) (best net bs) (net_best net bs)
  unfolding best_of net_best
  best-shown =
      let found = search-shown net fine bs (ranks net) (net_patterns net bs) cheapest (kept-below (λ e. not (exceptional orderℤ cs e)))
      (λ X below. net-admitted net fine bs each X (λ x m. (below x m).0)) (trials odd)
      (λ X k x m. odd-below x (trials-among odd X k x m)) in
      rw (base-links, ← trials-best) found
