-- What a walk over links adds to a forest: as many links as it takes, and their costs.
use Rattle.std.specs.Prelude.{ℕ, zero, suc, ◌+◌, ◌≤◌, ◌⊎◌, ◌≡◌, refl, length, take}
use mathlib.Core.List.Memᴰ.{head as here}
use mathlib.Core.List.{List, [], ◌∷◌, foldl}
use Rattle.std.proofs.Common.{inl, inr, arith, leb-true}
use Rattle.order.specs.Test.{by-test}
use Rattle.order.specs.Order.{orderℕ}
use Rattle.order.specs.Perm.{sum}
use Rattle.order.specs.Sorted.{Sorted}
use Rattle.spanning.specs.Labelling.{crosses}
use Rattle.spanning.specs.LabelList.{label_of}
use Rattle.kruskal.specs.Tree.{added, linked}
use Rattle.kruskal.specs.Tree.{Tree}
use Rattle.network.specs.Yard.{ends_at, sum_at}

-- the first j of links in rising order of cost cost no more than the first j behind the first
first-least : (w : ℕ → ℕ) (e : ℕ) (l : List ℕ) (j : ℕ) → Sorted orderℕ w (e ∷ l) → j ≤ length l → sum w (take j (e ∷ l)) ≤ sum w (take j l)
first-least w e l zero s h = omega arith
first-least w e [] (suc j) s h = absurd (omega arith)
first-least w e (f ∷ l) (suc j) s h =
    let less = leb-true (w e) (w f) (s.0 f (here refl)) in
    let rest = first-least w f l j s.1 (omega arith) in
    omega arith

module _ (ends sums : List ℕ) where
  -- what a walk over l makes of t
  abbrev grown : Tree → List ℕ → Tree
  grown t l = foldl (linked ends sums) t l

  -- t and then r: one link more was taken, or none
  abbrev Step : ℕ → Tree → Tree → Type 0
  Step c t r = ((r.count ≡ t.count + 1) × (r.sum ≡ t.sum + c)) ⊎ ((r.count ≡ t.count) × (r.sum ≡ t.sum))

  one : (t : Tree) (e : ℕ) → Step (sum_at sums e) t (linked ends sums t e)
  unfolding linked added
  one t e = by-test (crosses (label_of t.forest.leader) (ends_at ends e)) (λ c. rw c (inl (refl, refl))) (λ c. rw c (inr (refl, refl)))

  pub grown-more : (t : Tree) (l : List ℕ) → t.count ≤ (grown t l).count
  grown-more t [] = omega arith
  grown-more t (e ∷ l) = go (linked ends sums t e) (one t e) (grown-more (linked ends sums t e) l)
    where
      go : (r : Tree) → Step (sum_at sums e) t r → r.count ≤ (grown r l).count → t.count ≤ (grown r l).count
      go r (inl p) h = omega (arith, p.0)
      go r (inr p) h = omega (arith, p.0)

  pub grown-few : (t : Tree) (l : List ℕ) → (grown t l).count ≤ t.count + length l
  grown-few t [] = omega arith
  grown-few t (e ∷ l) = go (linked ends sums t e) (one t e) (grown-few (linked ends sums t e) l)
    where
      go : (r : Tree) → Step (sum_at sums e) t r → (grown r l).count ≤ r.count + length l → (grown r l).count ≤ t.count + suc (length l)
      go r (inl p) h = omega (arith, p.0)
      go r (inr p) h = omega (arith, p.0)

  -- where all links are taken, all their costs are added
  pub grown-all : (t : Tree) (l : List ℕ) → (grown t l).count ≡ t.count + length l → (grown t l).sum ≡ t.sum + sum (sum_at sums) l
  grown-all t [] h = omega arith
  grown-all t (e ∷ l) h = go (linked ends sums t e) (one t e) h (grown-all (linked ends sums t e) l) (grown-few (linked ends sums t e) l)
    where
      go : (r : Tree) → Step (sum_at sums e) t r → (grown r l).count ≡ t.count + suc (length l)
          → ((grown r l).count ≡ r.count + length l → (grown r l).sum ≡ r.sum + sum (sum_at sums) l) → (grown r l).count ≤ r.count + length l
          → (grown r l).sum ≡ t.sum + (sum_at sums e + sum (sum_at sums) l)
      go r (inl p) h later few = let s = later (omega (arith, p.0)) in omega (arith, p.1)
      go r (inr p) h later few = absurd (omega (arith, p.0))

  -- of links in rising order of cost, j that are taken cost no less than the first j
  pub grown-least : (t : Tree) (l : List ℕ) (j : ℕ) → Sorted orderℕ (sum_at sums) l → (grown t l).count ≡ t.count + j
      → t.sum + sum (sum_at sums) (take j l) ≤ (grown t l).sum
  grown-least t [] zero s h = omega arith
  grown-least t [] (suc j) s h = absurd (omega arith)
  grown-least t (e ∷ l) j s h =
      let more = linked ends sums t e in
      go more (one t e) j h (λ i. grown-least more l i s.1) (grown-more more l) (grown-few more l)
    where
      go : (r : Tree) → Step (sum_at sums e) t r → (j : ℕ) → (grown r l).count ≡ t.count + j
          → ((i : ℕ) → (grown r l).count ≡ r.count + i → r.sum + sum (sum_at sums) (take i l) ≤ (grown r l).sum) → r.count ≤ (grown r l).count
          → (grown r l).count ≤ r.count + length l → t.sum + sum (sum_at sums) (take j (e ∷ l)) ≤ (grown r l).sum
      go r (inl p) zero h later more few = absurd (omega (arith, p.0))
      go r (inl p) (suc j) h later more few = let q = later j (omega (arith, p.0)) in omega (arith, p.1)
      go r (inr p) j h later more few =
          let q = later j (omega (arith, p.0)) in
          let short = first-least (sum_at sums) e l j s (omega (arith, p.0)) in
          omega (arith, p.1)
