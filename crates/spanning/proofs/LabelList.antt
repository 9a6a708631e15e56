-- A labelling held in a list, as a program has it: element v is the label of vertex v, and a vertex past the end has itself for a label.
-- To relabel the list is to merge the labelling (merge-labels).
use Rattle.std.specs.Prelude.{Bool, true, false, cond, List, ◌≡◌, refl, eqb, length, get_or}
use Rattle.std.proofs.Common.{sym, ◌∙◌, lt_of_not-le, zero-add, arith}
use Rattle.std.proofs.Math.Path.{fun_ext}
use Prim.Native.Nat.{ℕ, suc, ◌+◌, ◌≤◌, ◌<◌, zero}
use Rattle.std.proofs.Math.Decide.{dec_le}
use Rattle.std.proofs.lemmas.List.{length-map}
use Rattle.std.proofs.Math.ListN.{get_or-eq_default}
use Rattle.order.specs.Lists.{numbers_from}
use Rattle.order.proofs.Lists.{get_or_map}
use Rattle.order.proofs.Sorted.{numbers-length}
use Rattle.spanning.specs.Labelling.{Edge, merge}
use Rattle.spanning.proofs.Labelling.{merge-miss}
use Rattle.spanning.specs.LabelList.{Labels, first_labels, label_of, relabel, replaced}

module _ (n : ℕ) (ls : List ℕ) (known : Labels n ls) (e : Edge) (ha : e.a < n) (hb : e.b < n) where
  merge-label : (v : ℕ) → label_of (relabel ls e) v ≡ merge (label_of ls) e v
  unfolding merge
  merge-label v = go (dec_le (length ls) v)
    where
      f : ℕ → ℕ
      f = replaced (label_of ls e.a) (label_of ls e.b)

      go : Dec (length ls ≤ v) → label_of (relabel ls e) v ≡ merge (label_of ls) e v
      go (no h) = get_or_map f ls v v v (lt_of_not-le h)
      go (yes h) =
          let size = known.size in
          let own : label_of ls v ≡ v = get_or-eq_default ls v h in
          let less = known.bound e.b hb in
          let mapped : label_of (relabel ls e) v ≡ v = get_or-eq_default (relabel ls e) v (omega (arith, length-map ls f)) in
          mapped ∙ sym own ∙ sym (merge-miss (label_of ls) e v (λ p. omega arith))

  -- to relabel is to merge
  pub merge-labels : label_of (relabel ls e) ≡ merge (label_of ls) e
  merge-labels = fun_ext merge-label

  -- and the labels stay below n
  pub relabel-labels : Labels n (relabel ls e)
  relabel-labels = record { size = length-map ls f ∙ known.size; bound = bounded }
    where
      f : ℕ → ℕ
      f = replaced (label_of ls e.a) (label_of ls e.b)

      pick : (b : Bool) (x z : ℕ) → x < n → z < n → cond b x z < n
      pick true x z p q = p
      pick false x z p q = q

      bounded : (v : ℕ) → v < n → label_of (relabel ls e) v < n
      bounded v h =
          let size = known.size in
          let same : label_of (relabel ls e) v ≡ f (label_of ls v) = get_or_map f ls v v v (omega arith) in
          rw same (pick (eqb (label_of ls v) (label_of ls e.b)) (label_of ls e.a) (label_of ls v) (known.bound e.a ha) (known.bound v h))

-- the first labels join nothing
numbers-at : (n k i d : ℕ) → k + i ≡ d → get_or (numbers_from n k) i d ≡ d
unfolding numbers_from
numbers-at zero k i d p = refl
numbers-at (suc n) k zero d p = omega arith
numbers-at (suc n) k (suc i) d p = numbers-at n (suc k) i d (omega arith)

pub first-labels : (n v : ℕ) → label_of (first_labels n) v ≡ v
first-labels n v = numbers-at n 0 v v (zero-add v)

pub first-known : (n : ℕ) → Labels n (first_labels n)
first-known n = record { size = numbers-length n 0; bound = λ v h. let p = first-labels n v in omega arith }
