-- The index by the keys of plans: of equal keys the lower number stands first, since a sort keeps the order of equal keys.
use mathlib.Core.List.{List, ◌++◌}
use Rattle.std.specs.Prelude.{◌≡◌, ℕ, ◌*◌, length}
use Rattle.std.proofs.Math.Path.{sym, ap, ap₂}
use Rattle.std.proofs.Common.{◌∙◌, arith}
use Rattle.std.proofs.Math.Dec.{leb}
use Rattle.std.proofs.Math.ListN.{drop, get_or}
use Rattle.order.specs.Lists.{numbers_from}
use Rattle.order.specs.Order.{dictionary, orderℕ, orderℤ}
use Rattle.order.specs.Sorted.{sort}
use Rattle.order.proofs.Perm.{perm-length}
use Rattle.order.proofs.Sorted.{numbers-length, sort-perm}
use Rattle.network.specs.Fetching.{head_count}
use Rattle.network.specs.Indexing.{index_in, index_key, index_of, plan_numbers}
use Rattle.order.specs.Columns.{places_by, tabled}
use Rattle.order.proofs.Columns.{numbers-alike, tabled-at, tabled-length}
use Rattle.index_keys.specs.Key.{plan_key}
use Rattle.index_keys.specs.Order.{AllBytes, earlier-by}
use Rattle.index_building.specs.Entries.{entries_in, entry_bytes}

module _ (list : List ℕ) (bytes : AllBytes list) where
  -- the plan numbers by rising key are the index
  pub places-index : places_by (tabled (plan_key list) (head_count list)) ≡ index_of list
  unfolding places_by index_of
  places-index =
      let n = head_count list in
      let keys = tabled (plan_key list) n in
      ap (λ (k : ℕ). sort orderℕ (λ r. get_or keys r 0) (numbers_from k 0)) (tabled-length (plan_key list) n)
      ∙ numbers-alike orderℕ (λ r. get_or keys r 0) (dictionary orderℤ) (index_key list) n
      (λ x y h b. ap₂ leb (tabled-at (plan_key list) n x (omega arith)) (tabled-at (plan_key list) n y b) ∙ sym (earlier-by list bytes x y h))

  -- which has as many numbers as the list has plans
  index-size : length (index_of list) ≡ head_count list
  unfolding index_of
  index-size = perm-length (sort-perm (dictionary orderℤ) (index_key list) (plan_numbers list)) ∙ numbers-length (head_count list) 0

  -- a buffer with these numbers at its front has the index there
  pub index-built : {keys after : List ℕ} (before : List ℕ) → keys ≡ tabled (plan_key list) (head_count list) → after ≡ entries_in (places_by keys) before
      → after ≡ index_in list before
  unfolding index_in entries_in
  index-built {keys} before e q =
      q ∙ ap₂ (λ (ns : List ℕ) (k : ℕ). entry_bytes ns ++ drop (k * 2) before) numbers (ap length numbers ∙ index-size)
    where
      numbers : places_by keys ≡ index_of list
      numbers = ap places_by e ∙ places-index
