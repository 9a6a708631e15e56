-- Every ceiling cost of a tree is among the values of its ceiling, which fall strictly: what `frontier` asks of a problem.
use mathlib.Core.List.Memᴰ
use mathlib.Core.List.Memᴰ.{head as here}
use mathlib.Core.List.Memᴰ.{tail as there}
use Rattle.std.specs.Prelude.{List, [], ◌∷◌, map, ◌≡◌, refl, ℕ, suc, ◌≤◌, ◌<◌, ℤ, pos, length}
use Rattle.std.proofs.Math.Option.{some}
use Rattle.std.proofs.Common.{sym, ap, ◌∙◌, arith}
use Rattle.std.proofs.lemmas.List.{length-map}
use Rattle.order.specs.Lists.{◌∈◌, distinct}
use Rattle.order.proofs.Lists.{count-le-length, distinct-few, first-distinct, first-exists, first-mem}
use Rattle.order.specs.Lists.{numbers_from}
use Rattle.order.proofs.Lists.{length-filter, map-mem, mem-filter}
use Rattle.order.proofs.Perm.{perm-length}
use Rattle.order.specs.Order.{TotalOrder, equal, orderℤ, reverse}
use Rattle.order.proofs.Order.{equal-refl, equal→≡, ≡→equal}
use Rattle.order.proofs.Sorted.{distinct_apart, mem-numbers, mem-sort, numbers-length, sort-perm, sort-rising}
use Rattle.spanning.proofs.Rising.{rising-range}
use Rattle.spanning.proofs.Listing.{listing-iff, listing-length}
use Rattle.frontier.specs.Frontier.{OnGrid, Picks, listed, picks-cons, picks-nil, plans}
use Rattle.frontier.proofs.Plans.{plans-listed}
use Rattle.frontier.specs.Places.{AllFalling, Falling, all_cons, all_nil}
use Rattle.kmax.specs.KMax.{kmax}
use Rattle.kmax.proofs.KMax.{kmax-mem}
use Rattle.planning.specs.Graph.{Graph, IsLink, Sound, costs_from, links, problem, values_at, values_from}

-- a member is among the different ones, where the test decides equality
distinct-has : {C : Type 0} (O : TotalOrder C) (l : List C) {v : C} → v ∈ l → v ∈ distinct (equal O) l
distinct-has {C} O l {v} m =
    let w = first-exists (λ y. equal O y v) m (equal-refl O v) in
    let e : w.0 ≡ v = equal→≡ O w.0 v (first-mem (λ y. equal O y v) l w.0 w.1).1 in
    first-distinct (equal O) (equal-refl O) (λ x y h. ≡→equal O y x (sym (equal→≡ O x y h))) l (w.1 ∙ ap some e)

module _ (G : Graph) where
  open G use {stations, m, usable, ends, cost, ks}

  -- the values of a ceiling fall strictly
  pub values-fall : (i : ℕ) → Falling orderℤ (values_at G i)
  values-fall i =
      let vs : List ℤ = map (cost i) (links G) in
      sort-rising (reverse orderℤ) (λ v. v) (distinct (equal orderℤ) vs) (distinct_apart (λ v. v) (equal orderℤ) (λ x y q. ≡→equal orderℤ y x q) vs)

  -- the value of a link is among the values of its ceiling
  pub value-has : (i c : ℕ) → IsLink G c → cost i c ∈ values_at G i
  value-has i c h =
      let among = mem-filter usable (mem-numbers m 0 c (omega arith) (omega (arith, h.0))) h.1 in
      mem-sort (reverse orderℤ) (λ v. v) (distinct-has orderℤ (map (cost i) (links G)) (Memᴰ.map (cost i) among))

  -- a ceiling has no more different values than there are links
  pub values-few : (i : ℕ) → length (values_at G i) ≤ m
  values-few i =
      let vs : List ℤ = map (cost i) (links G) in
      let sorted = perm-length (sort-perm (reverse orderℤ) (λ v. v) (distinct (equal orderℤ) vs)) in
      let all : List ℕ = numbers_from m 0 in
      omega (
        arith,
        distinct-few (equal orderℤ) vs,
        length-map (links G) (cost i),
        length-filter usable all,
        count-le-length usable all,
        numbers-length m 0,
      )

  pub all-fall : (i : ℕ) (js : List ℕ) → AllFalling orderℤ (values_from G i js)
  all-fall i [] = all_nil
  all-fall i (k ∷ js) = all_cons (values-fall i) (all-fall (suc i) js)

  -- the ceiling costs of links that may be used, as many as each rank at least
  costs-picks : (ts : List ℕ) → ((t : ℕ) → t ∈ ts → IsLink G t) → (i : ℕ) (js : List ℕ) → ((k : ℕ) → k ∈ js → (0 < k) × (k ≤ length ts))
      → Picks (costs_from G i js ts) (values_from G i js)
  costs-picks ts below i [] h = picks-nil
  costs-picks ts below i (k ∷ js) h =
      let r = h k (here refl) in
      let v = kmax-mem orderℤ k (map (cost i) ts) (pos 0) r.0 (omega (arith, length-map ts (cost i))) in
      let c = map-mem (cost i) ts (kmax orderℤ k (map (cost i) ts) (pos 0)) v in
      picks-cons (Memᴰ.cast c.2 (value-has i c.0 (below c.0 c.1))) (costs-picks ts below (suc i) js (λ j q. h j (there q)))

  -- the walk and the promised list
  pub on-grid : Sound G → OnGrid (problem G)
  on-grid S ts k =
      let r = (listing-iff ends stations m usable S.some-station S.apart S.within ts).0 k in
      let l = listing-length ends stations m usable ts k in
      costs-picks ts (λ t j. ((rising-range 0 m ts r.0 t j).1, r.1 t j)) 0 ks (λ j q. let b = S.ranks j q in (b.0, omega arith))

  pub walk-lists : Sound G → plans (problem G) ≡ listed (problem G)
  walk-lists S = plans-listed (problem G) (on-grid S)
