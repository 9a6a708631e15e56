-- Filters: by tests that agree, and before or after a sort.
use Rattle.std.specs.Prelude.{Bool, List, [], ◌∷◌, ◌≡◌, refl}
use mathlib.Core.List.Memᴰ.{head as here}
use mathlib.Core.List.Memᴰ.{tail as there}
use Rattle.order.specs.Test.{by-test}
use Rattle.order.specs.Lists.{◌∈◌, filter}
use Rattle.order.proofs.Lists.{filter-mem, mem-filter}
use Rattle.order.proofs.Perm.{pairwise-filter}
use Rattle.order.specs.Order.{Less, TotalOrder}
use Rattle.order.specs.Sorted.{Apart, sort}
use Rattle.order.proofs.Sorted.{mem-sort, rising-unique, sort-mem, sort-rising}

module _ {A : Type 0} where
  pub filter-ext : (p q : A → Bool) (l : List A) → ((x : A) → x ∈ l → p x ≡ q x) → filter p l ≡ filter q l
  filter-ext p q [] h = refl
  filter-ext p q (x ∷ l) h =
      let rest = filter-ext p q l (λ y m. h y (there m)) in
      by-test (q x) (λ e. rw (h x (here refl), e, rest)) (λ e. rw (h x (here refl), e, rest))

  -- where no two have the same key
  pub filter-sort : {K : Type 0} (O : TotalOrder K) (key : A → K) (p : A → Bool) (l : List A) → Apart key l → filter p (sort O key l) ≡ sort O key (filter p l)
  filter-sort O key p l a =
      rising-unique O key (filter p (sort O key l)) (sort O key (filter p l))
      (pairwise-filter p (λ x y. Less O (key x) (key y)) (sort O key l) (sort-rising O key l a))
      (sort-rising O key (filter p l) (pairwise-filter p (λ x y. ¬ (key y ≡ key x)) l a))
      (λ x m. let r = filter-mem p (sort O key l) m in mem-sort O key (mem-filter p (sort-mem O key l r.0) r.1))
      (λ x m. let r = filter-mem p l (sort-mem O key (filter p l) m) in mem-filter p (mem-sort O key r.0) r.1)
