-- All spanning trees, found by going through the edges in the order of their numbers: an edge that may be used and joins two components is first taken,
-- and later left; any other is left. So they come in dictionary order, each once, and no set of edges with a ring is looked into.
use Rattle.std.specs.Prelude.{Bool, true, false, ◌&&◌, ◌≡◌, length}
use Rattle.std.proofs.Math.Bool.{and-false, cond}
use mathlib.Core.List.{List, [], ◌∷◌, map, ◌++◌}
use Rattle.std.proofs.Math.Path.{refl, sym, ap, ap₂}
use Rattle.std.proofs.Common.{◌∙◌, length-append}
use Prim.Native.Nat.{ℕ, zero, suc, ◌+◌, ◌-◌, ◌^◌, ◌≤◌, ◌<◌}
use Rattle.std.proofs.Math.Nat.{pow-zero, two-pow-succ}
use native.Mathlib.Omega.{arith}
use Rattle.std.proofs.lemmas.List.{length-map}
use Rattle.order.specs.Test.{by-test}
use Rattle.order.specs.Lists.{all, filter}
use Rattle.order.proofs.Lists.{filter-among, filter-append, filter-ext, sublist-few}
use Rattle.order.specs.Sorted.{Apart}
use Rattle.spanning.specs.Labelling.{Edge, Labelling, crosses, merge}
use Rattle.spanning.specs.Tree.{Within, identity, is_forest, is_tree, merge_all}
use Rattle.spanning.specs.Choose.{choose, choose_from}
use Rattle.spanning.proofs.Choose.{choose-iff}
use Rattle.spanning.specs.Listing.{spanning_trees}
use Rattle.spanning.proofs.Listing.{listed-forest}
use Rattle.spanning.proofs.Rising.{is_rising_in-iff}
use Rattle.spanning.specs.Branches.{branches, steps, steps_to_come, takes, to_come}

module _ (ends : ℕ → Edge) (usable : ℕ → Bool) where
  -- there are none where too few edges are left
  branches-few : (L : Labelling) (r t k : ℕ) → r < t → branches ends usable L r t k ≡ []
  unfolding branches
  branches-few L r zero k h = absurd (omega arith)
  branches-few L zero (suc t) k h = refl
  branches-few L (suc r) (suc t) k h =
      let without = branches-few L r (suc t) (suc k) (omega arith) in
      let with = branches-few (merge L (ends k)) r t (suc k) (omega arith) in
      by-test (takes ends usable L k) (λ e. rw (e, with, without)) (λ e. rw (e, without))

  -- ---- they are the lists without a ring, of all rising ones

  -- all edges of a list are taken, one after another
  abbrev ringless : Labelling → List ℕ → Bool
  ringless L ts = all usable ts && is_forest L (map ends ts)

  with_first : (L : Labelling) (k : ℕ) (ls : List (List ℕ))
      → filter (ringless L) (map (λ l. k ∷ l) ls) ≡ cond (takes ends usable L k) (map (λ l. k ∷ l) (filter (ringless (merge L (ends k))) ls)) []
  unfolding takes is_forest
  with_first L k [] = by-test (usable k && crosses L (ends k)) (λ e. rw e) (λ e. rw e)
  with_first L k (l ∷ ls) =
      let ih = with_first L k ls in
      by-test (usable k)
      (λ u. by-test (crosses L (ends k))
      (λ c. by-test (all usable l && is_forest (merge L (ends k)) (map ends l))
      (λ e. rw (u, c, e) (ap (λ (x : List (List ℕ)). (k ∷ l) ∷ x) (rw (u, c) at ih)))
      (λ e. rw (u, c, e) (rw (u, c) at ih)))
      (λ c. rw (u, c, and-false) (rw (u, c) at ih)))
      (λ u. rw u (rw u at ih))

  branches-chosen : (L : Labelling) (r t k : ℕ) → filter (ringless L) (choose_from r t k) ≡ branches ends usable L r t k
  unfolding branches choose_from is_forest
  branches-chosen L zero zero k = refl
  branches-chosen L zero (suc t) k = refl
  branches-chosen L (suc r) zero k = refl
  branches-chosen L (suc r) (suc t) k =
      let with = branches-chosen (merge L (ends k)) r t (suc k) in
      let without = branches-chosen L r (suc t) (suc k) in
      filter-append (ringless L) (map (λ l. k ∷ l) (choose_from r t (suc k))) (choose_from r (suc t) (suc k))
      ∙ ap₂ (λ (a b : List (List ℕ)). a ++ b)
      (with_first L k (choose_from r t (suc k)) ∙ ap (λ (x : List (List ℕ)). cond (takes ends usable L k) (map (λ l. k ∷ l) x) []) with) without
      ∙ by-test (takes ends usable L k) (λ e. rw e) (λ e. rw e)

  -- ALL TREES: as many edges as a tree has, from none taken on
  pub branches-all : (vs : List ℕ) (m : ℕ) → 0 < length vs → Apart (λ x. x) vs → ((c : ℕ) → c < m → usable c ≡ true → Within vs (ends c))
      → branches ends usable identity m (length vs - 1) 0 ≡ spanning_trees ends vs m usable
  unfolding spanning_trees choose
  branches-all vs m some apart within =
      sym (branches-chosen identity m (length vs - 1) 0)
      ∙ filter-ext (ringless identity) _ (choose (length vs - 1) m)
      (λ ts k.
      let c = (choose-iff (length vs - 1) m ts).0 k in
      sym (listed-forest ends vs m usable some apart within ts ((is_rising_in-iff 0 m ts).1 c.0) c.1))

  -- ---- what is still to come

  -- edge k is left, or taken
  pub come-left : (L : Labelling) (m t : ℕ) (ts : List ℕ) (k : ℕ) → k < m → length ts < t → takes ends usable (merge_all L (map ends ts)) k ≡ false
      → to_come ends usable L m t ts k ≡ to_come ends usable L m t ts (suc k)
  unfolding to_come branches
  come-left L m zero ts k h few e = absurd (omega arith)
  come-left L m (suc t) [] k h few e =
      let one : m - k ≡ suc (m - suc k) = omega arith in
      ap (λ (r : ℕ). branches ends usable L r (suc t) k) one ∙ rw e
  come-left L m (suc t) (c ∷ ts) k h few e =
      ap (λ (x : List (List ℕ)). map (λ l. c ∷ l) x ++ branches ends usable L (m - suc c) (suc t) (suc c))
      (come-left (merge L (ends c)) m t ts k h (omega arith) e)

  pub come-taken : (L : Labelling) (m t : ℕ) (ts : List ℕ) (k : ℕ) → k < m → length ts < t → takes ends usable (merge_all L (map ends ts)) k ≡ true
      → to_come ends usable L m t ts k ≡ to_come ends usable L m t (ts ++ (k ∷ [])) (suc k)
  unfolding to_come branches
  come-taken L m zero ts k h few e = absurd (omega arith)
  come-taken L m (suc t) [] k h few e =
      let one : m - k ≡ suc (m - suc k) = omega arith in
      ap (λ (r : ℕ). branches ends usable L r (suc t) k) one ∙ rw e
  come-taken L m (suc t) (c ∷ ts) k h few e =
      ap (λ (x : List (List ℕ)). map (λ l. c ∷ l) x ++ branches ends usable L (m - suc c) (suc t) (suc c))
      (come-taken (merge L (ends c)) m t ts k h (omega arith) e)

  -- too few edges are left: the last one taken is left instead
  pub come-back : (L : Labelling) (m t : ℕ) (ts : List ℕ) (c k : ℕ) → m - k < t - (length ts + 1)
      → to_come ends usable L m t (ts ++ (c ∷ [])) k ≡ to_come ends usable L m t ts (suc c)
  unfolding to_come
  come-back L m zero ts c k few = absurd (omega arith)
  come-back L m (suc t) [] c k few = rw (branches-few (merge L (ends c)) (m - k) t k (omega arith))
  come-back L m (suc t) (b ∷ ts) c k few =
      ap (λ (x : List (List ℕ)). map (λ l. b ∷ l) x ++ branches ends usable L (m - suc b) (suc t) (suc b))
      (come-back (merge L (ends b)) m t ts c k (omega arith))

  pub come-none : (L : Labelling) (m t k : ℕ) → m - k < t → to_come ends usable L m t [] k ≡ []
  unfolding to_come
  come-none L m t k few = branches-few L (m - k) t k few

  -- a tree is there: it comes first, and the others with its last edge left
  pub come-whole : (L : Labelling) (m t : ℕ) (ts : List ℕ) (c k : ℕ) → length ts + 1 ≡ t
      → to_come ends usable L m t (ts ++ (c ∷ [])) k ≡ (ts ++ (c ∷ [])) ∷ to_come ends usable L m t ts (suc c)
  unfolding to_come branches
  come-whole L m zero ts c k e = absurd (omega arith)
  come-whole L m (suc t) [] c k e = let none : t ≡ 0 = omega arith in rw none
  come-whole L m (suc t) (b ∷ ts) c k e =
      ap (λ (x : List (List ℕ)). map (λ l. b ∷ l) x ++ branches ends usable L (m - suc b) (suc t) (suc b))
      (come-whole (merge L (ends b)) m t ts c k (omega arith))

  -- no edges make a tree of none
  pub come-empty : (L : Labelling) (m k : ℕ) → to_come ends usable L m zero [] k ≡ [] ∷ []
  unfolding to_come branches
  come-empty L m k = refl

-- ---- it ends

pub fewer-left : (m : ℕ) (ts : List ℕ) (k : ℕ) → k < m → steps_to_come m ts (suc k) < steps_to_come m ts k
unfolding steps_to_come steps
fewer-left m [] k h = let one : m - k ≡ suc (m - suc k) = omega arith in rw one (omega arith)
fewer-left m (c ∷ ts) k h = let ih = fewer-left m ts k h in omega arith

pub fewer-taken : (m : ℕ) (ts : List ℕ) (k : ℕ) → k < m → steps_to_come m (ts ++ (k ∷ [])) (suc k) < steps_to_come m ts k
unfolding steps_to_come steps
fewer-taken m [] k h = let one : m - k ≡ suc (m - suc k) = omega arith in rw one (omega arith)
fewer-taken m (c ∷ ts) k h = let ih = fewer-taken m ts k h in omega arith

pub fewer-back : (m : ℕ) (ts : List ℕ) (c k : ℕ) → steps_to_come m ts (suc c) < steps_to_come m (ts ++ (c ∷ [])) k
unfolding steps_to_come
fewer-back m [] c k = omega arith
fewer-back m (b ∷ ts) c k = let ih = fewer-back m ts c k in omega arith

-- ---- how many there are

chosen-few : (r t k : ℕ) → length (choose_from r t k) ≤ 2 ^ r
unfolding choose_from
chosen-few zero zero k = omega (arith, pow-zero 2)
chosen-few zero (suc t) k = omega arith
chosen-few (suc r) zero k = let h = chosen-few r zero k in omega (arith, two-pow-succ r, some-chosen r k)
  where
    some-chosen : (r k : ℕ) → 1 ≤ 2 ^ r
    some-chosen zero k = omega (arith, pow-zero 2)
    some-chosen (suc r) k = omega (arith, two-pow-succ r, some-chosen r k)
chosen-few (suc r) (suc t) k =
    omega (
      arith,
      length-append (map (λ l. k ∷ l) (choose_from r t (suc k))) (choose_from r (suc t) (suc k)),
      length-map (choose_from r t (suc k)) (λ l. k ∷ l),
      chosen-few r t (suc k),
      chosen-few r (suc t) (suc k),
      two-pow-succ r,
    )

-- no more trees than sets of edges
pub trees-few : (ends : ℕ → Edge) (vs : List ℕ) (m : ℕ) (usable : ℕ → Bool) → length (spanning_trees ends vs m usable) ≤ 2 ^ m
unfolding spanning_trees choose
trees-few ends vs m usable =
    omega (
      arith,
      sublist-few (filter-among (λ ts. all usable ts && is_tree vs (map ends ts)) (choose_from m (length vs - 1) 0)),
      chosen-few m (length vs - 1) 0,
    )
