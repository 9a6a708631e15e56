-- A pass through keys for the cheapest plan, which holds the best plan so far.
use Rattle.std.specs.Prelude
use Rattle.std.specs.Prelude.{Some, None, cond, List, ◌∷◌, ◌≡◌, ℕ, suc, ◌+◌, ◌-◌, ◌≤◌, ◌<◌, Bool, leb, get_or}
use Rattle.std.proofs.Math.Option.{Option, none, some}
use Rattle.std.proofs.Common.{sym, ◌∙◌, add-one}
use Rattle.std.proofs.Math.Path.{ap}
use Rattle.std.proofs.Math.Nat.{sub-zero}
use native.Mathlib.Omega.{arith}
use borrow.Author.Tests.{le-leb, lt-leb}
use Rattle.std.proofs.Math.ListN.{length}
use Rattle.order.specs.Lists.{numbers_from}
use Rattle.order.specs.Order.{orderℕ}
use Rattle.order.specs.Least.{challenge, least, scan}
use Rattle.order.proofs.Least.{scan-least}
use Rattle.index_keys.specs.Key.{sum_in, y1_in}

-- ---- definitions

-- a plan's number, if there is one
unfoldable pub plan_in : Prelude.Option ℕ → Option ℕ
plan_in None = none
plan_in (Some r) = some r

-- the sum in the key of plan r
abbrev pub key_sum : List ℕ → ℕ → ℕ
key_sum keys r = sum_in (get_or keys r 0)

-- the y1 in the key of plan r is at most the bound
abbrev pub key_meets : List ℕ → ℕ → ℕ → Bool
key_meets keys bound r = leb (y1_in (get_or keys r 0)) bound

-- the cheapest plan that meets the bound, the earliest among equal sums
unfoldable pub cheapest_by : List ℕ → ℕ → Option ℕ
cheapest_by keys bound = least orderℕ (key_sum keys) (key_meets keys bound) (numbers_from (length keys) 0)

-- the better of the best plan so far and plan r, if that meets the bound
unfoldable pub next_best : List ℕ → ℕ → Option ℕ → ℕ → Option ℕ
next_best keys bound best r = let b = challenge orderℕ (key_sum keys) best r in cond (key_meets keys bound r) b best

-- what is found among the best plan so far, plan r and those after it
unfoldable pub searching : List ℕ → ℕ → Option ℕ → ℕ → Option ℕ
searching keys bound best r = scan orderℕ (key_sum keys) (key_meets keys bound) best (numbers_from (length keys - r) r)

-- ---- by what the code finds

module _ (keys : List ℕ) (bound : ℕ) where
  -- plan r does not meet the bound
  pub next-misses : (best : Option ℕ) (r : ℕ) → bound < y1_in (get_or keys r 0) → best ≡ next_best keys bound best r
  unfolding next_best
  next-misses best r h = rw (lt-leb (y1_in (get_or keys r 0)) bound h)

  -- it does, and is the first
  pub next-first : (r : ℕ) → y1_in (get_or keys r 0) ≤ bound → some r ≡ next_best keys bound none r
  unfolding next_best
  next-first r h = rw (le-leb (y1_in (get_or keys r 0)) bound h)

  -- it does, and the best one so far costs no more
  pub next-keeps : (b r : ℕ) → y1_in (get_or keys r 0) ≤ bound → key_sum keys b ≤ key_sum keys r → some b ≡ next_best keys bound (some b) r
  unfolding next_best
  next-keeps b r h g = rw (le-leb (y1_in (get_or keys r 0)) bound h, le-leb (key_sum keys b) (key_sum keys r) g)

  -- it does, and is cheaper
  pub next-better : (b r : ℕ) → y1_in (get_or keys r 0) ≤ bound → key_sum keys r < key_sum keys b → some r ≡ next_best keys bound (some b) r
  unfolding next_best
  next-better b r h g = rw (le-leb (y1_in (get_or keys r 0)) bound h, lt-leb (key_sum keys b) (key_sum keys r) g)

-- a plan's number and those after it
numbers-turn : (n r : ℕ) → r < n → numbers_from (n - r) r ≡ r ∷ numbers_from (n - (r + 1)) (r + 1)
unfolding numbers_from
numbers-turn n r l = let e : n - r ≡ suc (n - (r + 1)) = omega arith in rw (e, add-one r)

module _ (keys : List ℕ) (bound : ℕ) where
  -- no plan is read yet
  pub searched-start : searching keys bound none 0 ≡ cheapest_by keys bound
  unfolding searching cheapest_by
  searched-start = rw (sub-zero (length keys)) (scan-least orderℕ (key_sum keys) (key_meets keys bound) (numbers_from (length keys) 0))

  -- one more is
  pub searched-turn : (best : Option ℕ) (r : ℕ) {b : Option ℕ} → searching keys bound best r ≡ cheapest_by keys bound → r < length keys
      → b ≡ next_best keys bound best r → searching keys bound b (r + 1) ≡ cheapest_by keys bound
  unfolding searching next_best
  searched-turn best r {b} s l e =
      rw e (ap (scan orderℕ (key_sum keys) (key_meets keys bound) best) (sym (numbers-turn (length keys) r l)) ∙ s)

  -- all are read
  pub searched-end : (best : Option ℕ) (r : ℕ) → searching keys bound best r ≡ cheapest_by keys bound → length keys ≤ r → best ≡ cheapest_by keys bound
  unfolding searching numbers_from
  searched-end best r s l =
      let e : 0 ≡ length keys - r = omega arith in
      ap (λ (n : ℕ). scan orderℕ (key_sum keys) (key_meets keys bound) best (numbers_from n r)) e ∙ s
