-- The index of a list: each plan number stands in it once, in strictly rising order of what plans stand by, and building gives it.
use Rattle.std.specs.Prelude.{true, false, ◌≡◌, ℕ, ◌<◌, eqb, ℤ, pos, get_or, length}
use mathlib.Core.List.{List, ◌++◌, map}
use Rattle.std.proofs.Common.{sym, ◌∙◌}
use Rattle.std.proofs.Math.Path.{ap}
use native.Mathlib.Omega.{arith}
use Rattle.std.proofs.Math.ListN.{drop}
use Rattle.std.specs.Int.Signed.{mag}
use Rattle.order.specs.Test.{by-test}
use Rattle.order.specs.Lists.{count}
use Rattle.order.specs.Perm.{Perm}
use Rattle.order.proofs.Perm.{count-perm, perm-length}
use Rattle.order.specs.Order.{dictionary, orderℕ, orderℤ}
use Rattle.order.proofs.Order.{≡→equal}
use Rattle.order.specs.Sorted.{Rising}
use Rattle.order.proofs.Sorted.{numbers-length, numbers-mem, sort-mem, sort-perm}
use Rattle.network.specs.Bytes.{little_endian}
use Rattle.network.specs.PlanList.{join}
use Rattle.network.specs.Fetching.{damaged, head_count}
use Rattle.network.specs.Indexing.{entries_from, index_in, index_key, index_need, index_of, is_index, plan_numbers, without_ceilings}
use Rattle.order.specs.Numbers.{Telling}
use Rattle.order.proofs.Numbers.{numbers-once, sorted-numbers}
use Rattle.planlist_fetching.specs.Found.{whole}
use Rattle.index_lookup.specs.Entries.{AllBelow}
use Rattle.planner_index.specs.Held.{entries-held}

module _ (list : List ℕ) where
  -- no two plans stand by the same
  key-tells : (n : ℕ) → Telling (index_key list) n
  unfolding index_key
  key-tells n x y h g e =
      by-test (without_ceilings list)
      (λ t. let f = rw t at e in ap (λ (k : List ℤ). mag (get_or k 1 (pos 0))) f)
      (λ t. let f = rw t at e in ap (λ (k : List ℤ). mag (get_or k 3 (pos 0))) f)

  -- the index rises strictly
  pub index-rising : Rising (dictionary orderℤ) (index_key list) (index_of list)
  unfolding index_of
  index-rising = sorted-numbers (dictionary orderℤ) (index_key list) (head_count list) (key-tells (head_count list))

  -- it has the plan numbers in some order
  index-perm : Perm (index_of list) (plan_numbers list)
  unfolding index_of
  index-perm = sort-perm (dictionary orderℤ) (index_key list) (plan_numbers list)

  -- so it has as many as there are plans
  pub index-length : length (index_of list) ≡ head_count list
  index-length = perm-length index-perm ∙ numbers-length (head_count list) 0

  -- each is below the count
  pub index_below : AllBelow (head_count list) (index_of list)
  unfolding index_of
  index_below =
      record { below = λ x m. let w = numbers-mem (head_count list) 0 x (sort-mem (dictionary orderℤ) (index_key list) (plan_numbers list) m) in omega arith }

  -- and each stands in it once
  pub index-once : (x : ℕ) → x < head_count list → count (eqb x) (index_of list) ≡ 1
  index-once x h = count-perm (eqb x) index-perm ∙ numbers-once (head_count list) 0 x (omega arith) (omega arith)

-- ---- what building gives

module _ (list : List ℕ) (intact : damaged list ≡ false) where
  -- the entries of a buffer with the index in it are those of the index
  pub index-held : (buffer : List ℕ) → entries_from (head_count list) 0 (index_in list buffer) ≡ index_of list
  unfolding index_in
  index-held buffer =
      let rest = drop (index_need list) buffer in
      ap (λ (n : ℕ). entries_from n 0 (join (map (little_endian 2) (index_of list)) ++ rest)) (sym (index-length list))
      ∙ entries-held (index_of list) rest (record { below = λ x m. omega (arith, (index_below list).below x m, (whole list intact).few) })

  -- so such a buffer holds the index
  pub index_in_lem : (buffer : List ℕ) → is_index list (index_in list buffer) ≡ true
  unfolding is_index
  index_in_lem buffer = ≡→equal (dictionary orderℕ) (entries_from (head_count list) 0 (index_in list buffer)) (index_of list) (index-held buffer)
