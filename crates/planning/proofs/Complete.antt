-- A set of exceptional links, completed by Kruskal's method over the normal links, is the best tree with these exceptional links: what the search
-- of `kmax` asks of a completion.
use Rattle.std.proofs.Math.Bool.{Bool}
use Rattle.std.specs.Prelude.{true, false, ◌&&◌, not, ◌≡◌, ℤ, length}
use mathlib.Core.List.Memᴰ
use mathlib.Core.List.{List, map, Sublistᴰ}
use Rattle.std.proofs.Common.{⊎_elim, subst, ◌∙◌, arith}
use Rattle.std.proofs.Math.Option.{some, some-injective, none-ne-some}
use Rattle.std.proofs.Math.Path.{sym}
use Prim.Native.Nat.{ℕ}
use Rattle.std.proofs.Math.Dec.{eqb}
use borrow.Author.Tests.{not-true, eqb-true, eq-eqb}
use Rattle.order.specs.Test.{by-test, clash, left}
use Rattle.order.proofs.Test.{right}
use Rattle.order.specs.Lists.{◌∈◌, ◌⊆◌, filter, numbers_from}
use Rattle.order.proofs.Lists.{filter-mem, mem-filter, sublist-⊆}
use Rattle.order.proofs.Perm.{pairwise-filter, perm-split}
use Rattle.order.specs.Order.{Less, orderℕ, orderℤ, pairs}
use Rattle.order.specs.Sorted.{Rising, Sorted, ascending}
use Rattle.order.proofs.Sorted.{mem-numbers, numbers-mem, numbers-rising, rising-unique, sublist-rising}
use Rattle.order.proofs.Sorted.{mem-sort, sort-mem, sort-rising, sort_sorted}
use Rattle.order.specs.Least.{ranked}
use Rattle.spanning.specs.Tree.{SpanningTree, identity, is_forest}
use Rattle.spanning.proofs.Size.{is_forest-iff}
use Rattle.spanning.specs.Rising.{RisingIn}
use Rattle.spanning.proofs.Rising.{rising-range}
use Rattle.spanning.specs.Ties.{tie_weight}
use Rattle.spanning.specs.Best.{added, by_cost, whole}
use Rattle.spanning.proofs.Best.{added-among, best-spans, best-tree, by_cost-weight, forest-apart, whole_below, whole-tree}
use Rattle.spanning.proofs.Listing.{ascending-listed, listing-iff, listing-length}
use Rattle.kmax.specs.Ceilings.{exceptional}
use Rattle.kmax.specs.Search.{Completes}
use Rattle.planning.specs.Graph.{Graph, IsLink, NoWorse, Sound, completed, links, normals, sum_key, sum_order, tree_size, trees, under}
use Rattle.planning.proofs.Graph.{by-weight}
use Rattle.planning.specs.Complete.{others}

module _ (G : Graph) (S : Sound G) where
  open G use {stations, m, usable, ends, weight, cost, ks}

  -- the completion succeeds exactly where X and the added links are a spanning tree, and gives that in rising order
  module _ (cs X : List ℕ) (below-cs : (c : ℕ) → c ∈ cs → IsLink G c) (below-X : (c : ℕ) → c ∈ X → IsLink G c) where
    pub completed-some : (ts : List ℕ) → completed G cs X ≡ some ts → SpanningTree stations (map ends (whole ends cs X)) × (ts ≡ ascending (whole ends cs X))
    unfolding completed
    completed-some ts e =
        let us : List ℕ = whole ends cs X in
        let f : Bool = is_forest identity (map ends X) in
        let full : Bool = eqb (length us) (tree_size G) in
        by-test {P = SpanningTree stations (map ends us) × (ts ≡ ascending us)} (f && full)
        (λ k. (
          (whole-tree ends stations m usable S.some-station S.apart S.within cs X below-cs below-X).1
              ((is_forest-iff identity (map ends X)).0 (left f full k), eqb-true (length us) (tree_size G) (right f full k)),
          sym (some-injective (ascending us) ts (rw k at e)),
        ))
        (λ k. absurd (none-ne-some ts (rw k at e)))

    pub completed-tree : SpanningTree stations (map ends (whole ends cs X)) → completed G cs X ≡ some (ascending (whole ends cs X))
    unfolding completed
    completed-tree t =
        let r = (whole-tree ends stations m usable S.some-station S.apart S.within cs X below-cs below-X).0 t in
        rw ((is_forest-iff identity (map ends X)).1 r.0, eq-eqb (length (whole ends cs X)) (tree_size G) r.1)

  -- each is a link that may be used
  pub link-below : (c : ℕ) → c ∈ links G → IsLink G c
  link-below c k =
      let f = filter-mem usable (numbers_from m 0) k in
      let r = numbers-mem m 0 c f.0 in
      (omega arith, f.1)

  -- the links stand in rising order
  pub links-rising : Rising orderℕ (λ x. x) (links G)
  links-rising = pairwise-filter usable (λ x y. Less orderℕ x y) (numbers_from m 0) (numbers-rising m 0)

  -- Of a tree the links that pass a test p stay, and the others are given up for the best of all links that do not pass.
  module _ (p : ℕ → Bool) where
    pub other : (c : ℕ) → c ∈ others G p → IsLink G c × (p c ≡ false)
    other c k =
        let l = filter (λ c. not (p c)) (links G) in
        let r = filter-mem (λ c. not (p c)) (links G) (sort-mem (pairs orderℕ orderℕ) (ranked weight (λ c. c)) l k) in
        (link-below c r.0, not-true (p c) r.1)

    -- they stand by cost, then number
    others-sorted : Sorted orderℕ (tie_weight weight m) (others G p)
    others-sorted =
        let l = filter (λ c. not (p c)) (links G) in
        rw (by_cost-weight weight m l (λ c k. (link-below c (filter-mem (λ c. not (p c)) (links G) k).0).0)) (sort_sorted orderℕ (tie_weight weight m) l)

    module _ (ts : List ℕ) (k : ts ∈ trees G) where
      listed : RisingIn 0 m ts × ((t : ℕ) → t ∈ ts → usable t ≡ true) × SpanningTree stations (map ends ts)
      listed = (listing-iff ends stations m usable S.some-station S.apart S.within ts).0 k

      below : (t : ℕ) → t ∈ ts → IsLink G t
      below t i = ((rising-range 0 m ts listed.0 t i).1, listed.1 t i)

      pub stay-below : (x : ℕ) → x ∈ filter p ts → IsLink G x
      stay-below x i = below x (filter-mem p ts i).0

      among : filter (λ c. not (p c)) ts ⊆ others G p
      among x i =
          let r = filter-mem (λ c. not (p c)) ts i in
          let h = below x r.0 in
          let link = mem-filter usable (mem-numbers m 0 x (omega arith) (omega (arith, h.0))) h.1 in
          mem-sort (pairs orderℕ orderℕ) (ranked weight (λ c. c)) (mem-filter (λ c. not (p c)) link r.1)

      -- that is a spanning tree,
      pub replaced-spans : SpanningTree stations (map ends (whole ends (others G p) (filter p ts)))
      replaced-spans =
          best-spans ends stations m usable S.some-station S.apart S.within (others G p) (filter p ts) (λ c i. (other c i).0) stay-below
          weight others-sorted ts (filter (λ c. not (p c)) ts) listed.0 listed.1 listed.2 (perm-split p ts) among

      -- and no worse
      pub replaced-better : NoWorse G (ascending (whole ends (others G p) (filter p ts))) ts
      replaced-better =
          by-weight G S (ascending (whole ends (others G p) (filter p ts))) ts sizes
          ∙ best-tree ends stations m usable S.some-station S.apart S.within (others G p) (filter p ts) (λ c i. (other c i).0) stay-below
          weight others-sorted ts (filter (λ c. not (p c)) ts) listed.0 listed.1 listed.2 (perm-split p ts) among
        where
          replaced-below : (t : ℕ) → t ∈ whole ends (others G p) (filter p ts) → IsLink G t
          replaced-below =
              whole_below ends stations m usable S.some-station S.apart S.within (others G p) (filter p ts) (λ c i. (other c i).0) stay-below

          sizes : length (ascending (whole ends (others G p) (filter p ts))) ≡ length ts
          sizes =
              listing-length ends stations m usable (ascending (whole ends (others G p) (filter p ts)))
              (ascending-listed ends stations m usable S.some-station S.apart S.within (whole ends (others G p) (filter p ts)) replaced-below
              replaced-spans)
              ∙ sym (listing-length ends stations m usable ts k)

  -- the completion of `kmax`'s search, under the bounds bs
  module _ (bs : List ℤ) where
    -- the test of an exceptional link
    abbrev odd : ℕ → Bool
    odd = exceptional orderℤ (under G bs)

    -- the normal links by cost
    abbrev candidates : List ℕ
    candidates = by_cost weight (normals G bs)

    -- no candidate is exceptional
    candidate : (c : ℕ) → c ∈ candidates → IsLink G c × (odd c ≡ false)
    candidate = other odd

    -- the completion of X is a tree whose exceptional links are X
    sound : (X ts : List ℕ) → Sublistᴰ X (filter odd (links G)) → completed G candidates X ≡ some ts
        → (ts ∈ trees G) × (filter odd ts ≡ X)
    sound X ts sub e = (subst (λ (us : List ℕ). us ∈ trees G) (sym c.1) listed, rw c.1 same)
      where
        us : List ℕ
        us = whole ends candidates X

        X-odd : (x : ℕ) → x ∈ X → IsLink G x × (odd x ≡ true)
        X-odd x k = let r = filter-mem odd (links G) (sublist-⊆ sub x k) in (link-below x r.0, r.1)

        below : (t : ℕ) → t ∈ us → IsLink G t
        below = whole_below ends stations m usable S.some-station S.apart S.within candidates X (λ c k. (candidate c k).0) (λ x k. (X-odd x k).0)

        c : SpanningTree stations (map ends us) × (ts ≡ ascending us)
        c = completed-some candidates X (λ c k. (candidate c k).0) (λ x k. (X-odd x k).0) ts e

        listed : ascending us ∈ trees G
        listed = ascending-listed ends stations m usable S.some-station S.apart S.within us below c.0

        new : added ends candidates X ⊆ candidates
        new = added-among ends stations m usable S.some-station S.apart S.within candidates X (λ c k. (candidate c k).0) (λ x k. (X-odd x k).0)

        to : (x : ℕ) → x ∈ filter odd (ascending us) → x ∈ X
        to x k =
            let r = filter-mem odd (ascending us) k in
            ⊎_elim
            (λ i. i)
            (λ i. clash r.1 (candidate x (new x i)).1)
            (Memᴰ.append_cases X (sort-mem orderℕ (λ x. x) us r.0))

        from : (x : ℕ) → x ∈ X → x ∈ filter odd (ascending us)
        from x k = mem-filter odd (mem-sort orderℕ (λ x. x) (Memᴰ.append_left (added ends candidates X) k)) (X-odd x k).1

        same : filter odd (ascending us) ≡ X
        same =
            rising-unique orderℕ (λ x. x) (filter odd (ascending us)) X
            (pairwise-filter odd (λ x y. Less orderℕ x y) (ascending us) (sort-rising orderℕ (λ x. x) us (forest-apart ends identity us c.0.forest)))
            (sublist-rising orderℕ (λ x. x) sub (pairwise-filter odd (λ x y. Less orderℕ x y) (links G) links-rising)) to from

    -- and no tree whose exceptional links are X is better
    optimal : (X ts : List ℕ) → ts ∈ trees G → filter odd ts ≡ X
        → (us : List ℕ) × (completed G candidates X ≡ some us) × NoWorse G us ts
    optimal X ts k q =
        subst (λ (Y : List ℕ). (us : List ℕ) × (completed G candidates Y ≡ some us) × NoWorse G us ts) q (
          ascending (whole ends candidates (filter odd ts)),
          completed-tree candidates (filter odd ts) (λ c i. (candidate c i).0) (stay-below odd ts k) (replaced-spans odd ts k),
          replaced-better odd ts k,
        )

    pub completes : Completes orderℤ (under G bs) sum_order (sum_key G) (completed G candidates) (links G) (trees G)
    completes = record { sound = sound; optimal = optimal }
