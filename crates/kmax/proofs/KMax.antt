-- The k-th largest of a list of costs, equal ones counted separately, k from 1: in k passes, each taking out one largest.
-- It is at most b exactly where fewer than k of the costs are above b.
use Rattle.std.specs.Prelude.{Bool, true, List, [], ◌∷◌, ◌↔◌, ◌≡◌, refl, ℕ, suc, ◌≤◌, ◌<◌, zero, length}
use mathlib.Core.List.Memᴰ
use mathlib.Core.List.Memᴰ.{head as here}
use mathlib.Core.List.Memᴰ.{tail as there}
use Rattle.std.proofs.Common.{⊎_elim, sym, ap, ◌∙◌, arith}
use mathlib.Core.Logic.Iff
use Rattle.std.proofs.Math.Option.{Option, none, some}
use Rattle.order.specs.Test.{by-test, clash}
use Rattle.order.specs.Lists.{◌∈◌, count}
use Rattle.order.proofs.Lists.{count-all, count_none, count-swap}
use Rattle.order.specs.Order.{TotalOrder, equal, reverse}
use Rattle.order.proofs.Order.{equal→≡, le_refl, ≡→equal}
use Rattle.order.specs.Least.{IsLeast, least}
use Rattle.order.proofs.Least.{least-none, least-some}
use Rattle.kmax.specs.KMax.{above, count_above, kmax, maximum, or_else, remove_one}

-- ---- what a pass takes out

module _ {C : Type 0} (O : TotalOrder C) where
  open O use {le, le_trans, le_antisym}

  -- a count is the same whether the element taken out stands in its place or in front
  pub count-remove_one : (p : C → Bool) (m : C) (xs : List C) → m ∈ xs → count p xs ≡ count p (m ∷ remove_one O m xs)
  count-remove_one p m [] i = elim i [ ]
  count-remove_one p m (x ∷ xs) i =
      by-test (equal O m x)
      (λ e. rw (e, equal→≡ O m x e))
      (λ e. rw e (⊎_elim
      (λ (q : m ≡ x). clash (≡→equal O m x q) e)
      (λ n. rw (count-remove_one p m xs n) (count-swap p x m (remove_one O m xs)))
      (Memᴰ.cases_cons i)))

  pub length-remove_one : (m : C) (xs : List C) → m ∈ xs → length xs ≡ suc (length (remove_one O m xs))
  length-remove_one m xs i =
      sym (count-all xs) ∙ count-remove_one (λ x. true) m xs i ∙ ap suc (count-all (remove_one O m xs))

  pub remove_one-mem : (m : C) (xs : List C) (z : C) → z ∈ remove_one O m xs → z ∈ xs
  remove_one-mem m [] z i = elim i [ ]
  remove_one-mem m (x ∷ xs) z i =
      by-test (equal O m x)
      (λ e. there (rw e at i))
      (λ e. ⊎_elim (λ q. here q) (λ n. there (remove_one-mem m xs z n)) (Memᴰ.cases_cons (rw e at i)))

  -- the largest is an element that no other passes
  maximum-is : (d : C) (xs : List C) → 0 < length xs → IsLeast (reverse O) (λ x. x) (λ x. true) xs (maximum O d xs)
  maximum-is d xs h = go (least (reverse O) (λ x. x) (λ x. true) xs) refl
    where
      some-least : (l : List C) → 0 < length l → least (reverse O) (λ x. x) (λ x. true) l ≡ none → ⊥
      some-least [] h e = omega arith
      some-least (x ∷ l) h e = clash refl (least-none (reverse O) (λ x. x) (λ x. true) (x ∷ l) e (here refl))

      go : (o : Option C) → least (reverse O) (λ x. x) (λ x. true) xs ≡ o → IsLeast (reverse O) (λ x. x) (λ x. true) xs (or_else d o)
      go none e = absurd (some-least xs h e)
      go (some m) e = least-some (reverse O) (λ x. x) (λ x. true) xs m e

  pub maximum-mem : (d : C) (xs : List C) → 0 < length xs → maximum O d xs ∈ xs
  maximum-mem d xs h = (maximum-is d xs h).member

  pub maximum-le : (d : C) (xs : List C) (z : C) → z ∈ xs → le z (maximum O d xs) ≡ true
  maximum-le d [] z m = absurd (Memᴰ.not-nil m)
  maximum-le d (x ∷ xs) z m = (maximum-is d (x ∷ xs) (omega arith)).lowest z m refl

  pub maximum-unique : (d m : C) (xs : List C) → m ∈ xs → ((z : C) → z ∈ xs → le z m ≡ true) → m ≡ maximum O d xs
  maximum-unique d m [] i h = absurd (Memᴰ.not-nil i)
  maximum-unique d m (x ∷ xs) i h =
      le_antisym m (maximum O d (x ∷ xs)) (maximum-le d (x ∷ xs) m i) (h (maximum O d (x ∷ xs)) (maximum-mem d (x ∷ xs) (omega arith)))

  -- ---- the k-th largest and the count above a bound

  -- nothing is above a bound that the largest meets
  none_above : (m b : C) (xs : List C) → ((z : C) → z ∈ xs → le z m ≡ true) → le m b ≡ true → count_above O b xs ≡ 0
  none_above m b xs h e = count_none (above O b) xs (λ z i. rw (le_trans z m b (h z i) e))

  -- with a largest element m taken out of xs, which leaves ys, one fewer may be above a bound
  take_out : (k : ℕ) (xs ys : List C) (m b : C) → count (above O b) xs ≡ count (above O b) (m ∷ ys) → ((z : C) → z ∈ ys → le z m ≡ true) → 0 < k
      → (count_above O b ys < k) ↔ (count_above O b xs < suc k)
  take_out k xs ys m b c h l =
      by-test (le m b)
      (λ e. let nil = none_above m b ys h e in let c' = rw e at c in omega arith)
      (λ e. let c' = rw e at c in omega arith)

  pub kmax-le : (k : ℕ) (xs : List C) (d b : C) → 0 < k → k ≤ length xs → (le (kmax O k xs d) b ≡ true) ↔ (count_above O b xs < k)
  kmax-le zero xs d b h l = absurd (omega arith)
  kmax-le (suc zero) xs d b h l =
      let c = count-remove_one (above O b) (maximum O d xs) xs (maximum-mem d xs l) in (
        λ e. omega (arith, none_above (maximum O d xs) b xs (maximum-le d xs) e),
        λ n. by-test (le (maximum O d xs) b) (λ e. e) (λ e. let c' = rw e at c in absurd (omega arith)),
      )
  kmax-le (suc (suc k)) xs d b h l =
      let m = maximum O d xs in
      let i = maximum-mem d xs (omega arith) in
      Iff.trans
      (kmax-le (suc k) (remove_one O m xs) d b (omega arith) (omega (arith, length-remove_one m xs i)))
      (take_out (suc k) xs (remove_one O m xs) m b (count-remove_one (above O b) m xs i) (λ z n. maximum-le d xs z (remove_one-mem m xs z n)) (omega arith))

  pub kmax-mem : (k : ℕ) (xs : List C) (d : C) → 0 < k → k ≤ length xs → kmax O k xs d ∈ xs
  kmax-mem zero xs d h l = absurd (omega arith)
  kmax-mem (suc zero) xs d h l = maximum-mem d xs l
  kmax-mem (suc (suc k)) xs d h l =
      let i = maximum-mem d xs (omega arith) in
      remove_one-mem _ xs _ (kmax-mem (suc k) (remove_one O (maximum O d xs) xs) d (omega arith) (omega (arith, length-remove_one _ _ i)))

  pub kmax-short : (k : ℕ) (xs : List C) (d : C) → length xs < k → kmax O k xs d ≡ d
  kmax-short zero xs d h = refl
  kmax-short (suc zero) [] d h = refl
  kmax-short (suc zero) (x ∷ xs) d h = absurd (omega arith)
  kmax-short (suc (suc k)) [] d h = kmax-short (suc k) [] d (omega arith)
  kmax-short (suc (suc k)) (x ∷ xs) d h =
      let m = maximum O d (x ∷ xs) in
      let i = maximum-mem d (x ∷ xs) (omega arith) in
      kmax-short (suc k) (remove_one O m (x ∷ xs)) d (omega (arith, length-remove_one m (x ∷ xs) i))

  -- the counts above every bound settle the k-th largest
  pub kmax-unique : (k : ℕ) (xs : List C) (d v : C) → 0 < k → k ≤ length xs
      → ((b : C) → (le v b ≡ true) ↔ (count_above O b xs < k)) → v ≡ kmax O k xs d
  kmax-unique k xs d v h l c =
      let w = kmax O k xs d in
      let r = le_refl O in
      le_antisym v w ((c w).1 ((kmax-le k xs d w h l).0 (r w))) ((kmax-le k xs d v h l).1 ((c v).0 (r v)))

  -- however a largest element m is taken out of xs: what stays, ys, has the k-th largest that xs has as the next
  pub kmax-take-out : (k : ℕ) (xs ys : List C) (m d : C) → ((p : C → Bool) → count p xs ≡ count p (m ∷ ys)) → ((z : C) → z ∈ ys → le z m ≡ true)
      → 0 < k → k ≤ length ys → kmax O (suc k) xs d ≡ kmax O k ys d
  kmax-take-out k xs ys m d c h i l =
      let n = sym (count-all xs) ∙ c (λ x. true) ∙ ap suc (count-all ys) in
      sym (kmax-unique (suc k) xs d (kmax O k ys d) (omega arith) (omega arith) (λ b.
      Iff.trans (kmax-le k ys d b i l) (take_out k xs ys m b (c (above O b)) h i)))
