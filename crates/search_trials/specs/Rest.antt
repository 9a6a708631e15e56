-- Sets that cannot lead to a better tree: the base has too few links beside them, or even its cheapest cost too much. The base is in rising
-- order of cost.
use Rattle.std.specs.Prelude.{Option, Some, None, IfSome, is_some, refl, ℕ, zero, suc, ◌+◌, ◌-◌, ◌*◌, ◌≤◌, ◌<◌, Bool, true, false, cond, ◌&&◌, ◌≡◌, eqb, ltb, drop, take}
use mathlib.Core.List.{List, [], ◌∷◌, foldl}
use mathlib.Core.List.Sublistᴰ
use mathlib.Core.List.{Sublistᴰ}
use Rattle.std.proofs.Common.{sym, ap, ◌∙◌, arith, length-drop, take-append-drop, take_all}
use Rattle.std.proofs.Math.Nat.{mul-le-mul_right}
use borrow.Author.Tests.{eqb-true, le-ltb, lt-ltb, ltb-true, ne_eqb}
use Rattle.std.proofs.Math.ListN.{length}
use Rattle.order.specs.Test.{by-test, clash, left}
use Rattle.order.proofs.Test.{fails, right}
use Rattle.order.proofs.Lists.{sublist-⊆}
use Rattle.order.specs.Order.{orderℕ}
use Rattle.order.specs.Perm.{sum}
use Rattle.order.proofs.Perm.{sum-append}
use Rattle.order.specs.Sorted.{Sorted}
use Rattle.network.specs.Capacities.{links_held, sum_held}
use Rattle.network.specs.Yard.{sum_at}
use Rattle.trees_costs.specs.Added.{Below, sum-le, sum_of}
use Rattle.kruskal.specs.Tree.{Tree, Walkable, bare, linked}
use Rattle.search_trials.specs.Growth.{grown-all, grown-few, grown-least, grown-more}
use Rattle.search_trials.specs.Search.{Best, beats, nothing, offered, tried}
use Rattle.search_trials.specs.Stands.{best_by, sum_by}
use Rattle.search_trials.specs.declared.best.Trial.{Trial}

-- what a tree of `goal` links takes of the base beside a set of `size` links, if the base has as many: the least that so many cost
unfoldable pub rest_of : List ℕ → List ℕ → ℕ → ℕ → Option ℕ
rest_of sums base goal size = cond (ltb (length base) (goal - size)) None (Some (sum (sum_at sums) (take (goal - size) base)))

-- no tree with a set that costs `cost` is better than the best so far, if one was found, with its sum
abbrev pub loses_to : Option ℕ → ℕ → Bool → ℕ → Bool
loses_to None cost found best = true
loses_to (Some least) cost found best = found && ltb best (cost + least)

-- a set that costs more loses too
pub loses-more : (rest : Option ℕ) (c d : ℕ) (found : Bool) (best : ℕ) → c ≤ d → loses_to rest c found best ≡ true → loses_to rest d found best ≡ true
loses-more None c d found best h e = refl
loses-more (Some least) c d true best h e = lt-ltb best (d + least) (omega (arith, ltb-true best (c + least) e))
loses-more (Some least) c d false best h e = e

-- the lead loses as the best tree does that it stands for
pub by-loses : (base : List ℕ) (c : Option Trial) (rest : Option ℕ) (cost : ℕ) → loses_to rest cost (is_some c) (sum_by c) ≡ true
    → loses_to rest cost (best_by base c).found (best_by base c).sum ≡ true
unfolding nothing
by-loses base None rest cost e = e
by-loses base (Some t) rest cost e = e

-- ---- links of the base have costs in range

-- the links from a place on are some of all, in their order
pub drop-sublist : (l : List ℕ) (i : ℕ) → Sublistᴰ (drop i l) l
drop-sublist l zero = Sublistᴰ.refl l
drop-sublist [] (suc i) = Sublistᴰ.slnil
drop-sublist (x ∷ l) (suc i) = Sublistᴰ.cons (drop-sublist l i)

-- a list from place i on, as a part of a slice has it
pub from_place : (l : List ℕ) (i : ℕ) → take (length l - i) (drop i l) ≡ drop i l
from_place l i = take_all (length l - i) (drop i l) (omega (arith, length-drop i l))

-- the first links of the base and the others cost what the base does
parts : (sums base : List ℕ) (n : ℕ) → sum_of sums (take n base) + sum_of sums (drop n base) ≡ sum_of sums base
unfolding sum_of
parts sums base n = sym (sum-append (sum_at sums) (take n base) (drop n base)) ∙ ap (sum (sum_at sums)) (take-append-drop n base)

module _ (sums base : List ℕ) (walk : Walkable sums base) where
  base-small : sum_of sums base ≤ links_held * sum_held
  unfolding sum_of
  base-small =
      let few = walk.few in
      let all = sum-le (sum_at sums) sum_held base (λ e m. (walk.usable e m).cheap) in
      omega (arith, mul-le-mul_right sum_held few)

  -- the links behind the first n
  pub behind-known : (n : ℕ) → Below (length sums) (drop n base)
  behind-known n = record { below = λ e m. (walk.usable e (sublist-⊆ (drop-sublist base n) e m)).below }

  pub behind-fits : (n : ℕ) → sum_of sums (drop n base) < 4294967296
  behind-fits n = omega (arith, parts sums base n, base-small)

  pub least_fits : (goal size c : ℕ) → c ≤ 2 * sum_held → IfSome (rest_of sums base goal size) (λ least. c + least < 4294967296)
  unfolding rest_of sum_of
  least_fits goal size c h =
      by-test (ltb (length base) (goal - size))
      (λ e. rw e tt)
      (λ e. rw e (omega (arith, parts sums base (goal - size), base-small)))

-- what the links behind the first n cost is part of what the base costs, and the first n cost the rest of it
pub behind-part : (sums base : List ℕ) {total : ℕ} (n : ℕ) → total ≡ sum_of sums base → sum_of sums (drop n base) ≤ total
behind-part sums base n e = omega (arith, parts sums base n)

-- the rest, by whether the base has enough links
module _ (sums base : List ℕ) (goal size : ℕ) where
  pub rest-few : length base < goal - size → None ≡ rest_of sums base goal size
  unfolding rest_of
  rest-few h = rw (lt-ltb (length base) (goal - size) h)

  pub rest-enough : {total : ℕ} → total ≡ sum_of sums base → goal - size ≤ length base
      → Some (total - sum_of sums (drop (goal - size) base)) ≡ rest_of sums base goal size
  unfolding rest_of sum_of
  rest-enough {total} e h =
      let least : total - sum_of sums (drop (goal - size) base) ≡ sum_of sums (take (goal - size) base) = omega (arith, parts sums base (goal - size)) in
      rw (le-ltb (length base) (goal - size) h) (ap (λ (k : ℕ). Some k) least)

-- ---- a set that loses

module _ (ends sums : List ℕ) (goal : ℕ) (base : List ℕ) (sorted : Sorted orderℕ (sum_at sums) base) where
  -- the tree that a set without a ring leads to has too few links, or a larger sum than b
  no-better : (b : Best) (X : List ℕ) (t : Tree) → loses_to (rest_of sums base goal (length X)) (sum (sum_at sums) X) b.found b.sum ≡ true
      → t.count ≡ length X → t.sum ≡ sum (sum_at sums) X
      → eqb (foldl (linked ends sums) t base).count goal && beats (foldl (linked ends sums) t base) b ≡ false
  unfolding rest_of beats
  no-better b X t e n c = fails _ (λ k.
      let u = foldl (linked ends sums) t base in
      let count = eqb-true u.count goal (left (eqb u.count goal) _ k) in
      let few = grown-few ends sums t base in
      let more = grown-more ends sums t base in
      by-test (ltb (length base) (goal - length X))
      (λ q. let short : length base < goal - length X = ltb-true (length base) (goal - length X) q in absurd (omega arith))
      (λ q.
      let dear = rw q at e in
      let found = left b.found _ dear in
      let above : b.sum < sum (sum_at sums) X + sum (sum_at sums) (take (goal - length X) base) = ltb-true _ _ (right b.found _ dear) in
      let least = grown-least ends sums t base (goal - length X) sorted (omega arith) in
      clash (right (eqb u.count goal) _ k) (rw (found, le-ltb u.sum b.sum (omega arith), ne_eqb u.sum b.sum (λ s. omega arith)))))

  pub losing : (b : Best) (X : List ℕ) → loses_to (rest_of sums base goal (length X)) (sum (sum_at sums) X) b.found b.sum ≡ true
      → b ≡ tried ends sums goal base b X
  unfolding tried offered bare
  losing b X e =
      let t = foldl (linked ends sums) bare X in
      by-test (eqb t.count (length X))
      (λ k.
      let n = eqb-true t.count (length X) k in
      let c = grown-all ends sums bare X (omega arith) in
      rw (k, no-better b X t e n (omega arith)))
      (λ k. rw k)
