-- Links that exceed the same ceilings are exchanged: for each tree there is one that fits where that fits and is no worse, and whose links of the
-- one pattern are all among those that Kruskal's method keeps of them. A search may leave the others out. For any one pattern and any number of
-- ceilings; the other links stay, so that patterns can be taken in turn.
use Rattle.std.specs.Prelude.{Bool, true, false, not, List, map, ◌⊎◌, ◌≡◌, refl, ℕ, ℤ, pos, length}
use mathlib.Core.List.Memᴰ
use Rattle.std.proofs.Common.{⊎_elim, subst, arith, length-append}
use Rattle.std.proofs.Math.Path.{fun_ext}
use Rattle.std.proofs.lemmas.Bool.{not-false, not-true}
use Rattle.order.specs.Test.{clash}
use Rattle.order.specs.Lists.{◌∈◌, count, filter}
use Rattle.order.proofs.Lists.{count-append, filter-mem}
use Rattle.order.proofs.Perm.{count-perm, perm-length, perm-split}
use Rattle.order.specs.Order.{orderℕ, orderℤ}
use Rattle.order.specs.Sorted.{ascending}
use Rattle.order.proofs.Sorted.{sort-mem, sort-perm}
use Rattle.spanning.specs.Tree.{identity, merge_all}
use Rattle.spanning.proofs.Tree.{merge_all-keeps}
use Rattle.spanning.proofs.Kruskal.{greedy-⊆, kruskal-again, kruskal-greedy}
use Rattle.spanning.specs.Best.{added, whole}
use Rattle.spanning.proofs.Best.{added-among, whole_below}
use Rattle.spanning.proofs.Listing.{ascending-listed, listing-length}
use Rattle.kmax.specs.Ceilings.{Ceiling, exceeds}
use Rattle.kmax.proofs.Ceilings.{meets-alike}
use Rattle.kmax.specs.Pattern.{OnePattern}
use Rattle.kmax.proofs.Pattern.{count-alike}
use Rattle.planning.specs.Graph.{Graph, IsLink, Sound, trees, under}
use Rattle.planning.specs.Complete.{others}
use Rattle.planning.proofs.Complete.{other, replaced-better, replaced-spans, stay-below}
use Rattle.planning.specs.Search.{base}
use Rattle.planning.proofs.Search.{trees-ranked}
use Rattle.planning.specs.Exchange.{Exchanged}

module _ (G : Graph) (S : Sound G) (bs : List ℤ) where
  open G use {stations, m, usable, ends, weight}

  -- the links that pass the test q stay
  module _ (q : ℕ → Bool) (one : OnePattern orderℤ (under G bs) (λ c. not (q c))) (ts : List ℕ) (k : ts ∈ trees G) where
    -- the links that stay
    abbrev X : List ℕ
    X = filter q ts

    -- the links that take the place of the others
    abbrev new : List ℕ
    new = added ends (others G q) X

    -- the tree that they make
    abbrev us : List ℕ
    us = whole ends (others G q) X

    below : (t : ℕ) → t ∈ us → IsLink G t
    below = whole_below ends stations m usable S.some-station S.apart S.within (others G q) X (λ c i. (other G S q c i).0) (stay-below G S q ts k)

    listed : ascending us ∈ trees G
    listed = ascending-listed ends stations m usable S.some-station S.apart S.within us below (replaced-spans G S q ts k)

    -- what is new is kept of the links that do not pass, and none of it passes
    new-kept : (x : ℕ) → x ∈ new → x ∈ base G (others G q)
    new-kept x i =
        greedy-⊆ ends (kruskal-greedy ends (merge_all identity (map ends X)) (base G (others G q))) x
        (rw (kruskal-again ends (others G q) (merge_all-keeps identity (map ends X))) i)

    new-other : (x : ℕ) → x ∈ new → q x ≡ false
    new-other x i =
        let among = added-among ends stations m usable S.some-station S.apart S.within (others G q) X in
        (other G S q x (among (λ c j. (other G S q c j).0) (stay-below G S q ts k) x i)).1

    -- the links that are given up
    abbrev gone : List ℕ
    gone = filter (λ c. not (q c)) ts

    -- as many links are new as are gone
    same_length : length new ≡ length gone
    same_length =
        omega (
          arith,
          listing-length ends stations m usable (ascending us) listed,
          listing-length ends stations m usable ts k,
          perm-length (sort-perm orderℕ (λ x. x) us),
          length-append X new,
          perm-length (perm-split q ts),
          length-append X gone,
        )

    same_count : (c : Ceiling ℤ) → c ∈ under G bs → count (exceeds orderℤ c) (ascending us) ≡ count (exceeds orderℤ c) ts
    same_count c i =
        let f = exceeds orderℤ c in
        let e = count-alike f (λ x. not (q x)) (one c i) new gone (λ x j. rw (new-other x j)) (λ x j. (filter-mem (λ c. not (q c)) ts j).1) same_length in
        omega (arith, count-perm f (sort-perm orderℕ (λ x. x) us), count-append f X new, count-perm f (perm-split q ts), count-append f X gone, e)

    old-or-new : (x : ℕ) → x ∈ ascending us → (x ∈ X) ⊎ (x ∈ new)
    old-or-new x i = Memᴰ.append_cases X (sort-mem orderℕ (λ x. x) us i)

    exchanged : Exchanged G S bs (λ c. not (q c)) ts (ascending us)
    exchanged =
        record {
          does = record {
            tree = listed;
            fits =
                let R = (trees-ranked G S bs).ranks in
                meets-alike orderℤ (pos 0) (under G bs) ts (ascending us) (R ts k) (R (ascending us) listed) same_count;
            better = replaced-better G S q ts k;
          };
          kept = λ x i e. ⊎_elim (λ j. clash (filter-mem q ts j).1 (not-true (q x) e)) (new-kept x) (old-or-new x i);
          stays = λ x i e. ⊎_elim (λ j. (filter-mem q ts j).0) (λ j. clash (not-false (q x) e) (new-other x j)) (old-or-new x i);
        }

  -- THE THEOREM
  pub exchange : (p : ℕ → Bool) → OnePattern orderℤ (under G bs) p → (ts : List ℕ) → ts ∈ trees G → (us : List ℕ) × Exchanged G S bs p ts us
  exchange p one ts k =
      subst (λ (r : ℕ → Bool). OnePattern orderℤ (under G bs) r → (us : List ℕ) × Exchanged G S bs r ts us) (fun_ext (λ c. not-not (p c)))
      (λ o. (ascending (us (λ c. not (p c)) o ts k), exchanged (λ c. not (p c)) o ts k)) one
    where
      not-not : (b : Bool) → not (not b) ≡ b
      not-not true = refl
      not-not false = refl
