-- What holds of the working stations of a yard, and that all stations work where no bit is set.
use Rattle.std.specs.Prelude.{ℕ, ◌%◌, ◌^◌, ◌≤◌, ◌<◌, ◌≡◌, true, eqb, length}
use Rattle.std.proofs.Common.{ap, ◌∙◌}
use Rattle.std.proofs.Math.Nat.{zero-div}
use native.Mathlib.Omega.{arith}
use Rattle.order.specs.Test.{left}
use Rattle.order.proofs.Test.{both, right}
use Rattle.order.specs.Lists.{◌∈◌, numbers_from}
use Rattle.order.proofs.Lists.{count-le-length, filter-all, filter-mem, length-filter, mem-filter}
use Rattle.order.specs.Order.{orderℕ}
use Rattle.order.proofs.Perm.{pairwise-filter}
use Rattle.order.specs.Sorted.{Apart}
use Rattle.order.proofs.Sorted.{mem-numbers, numbers-length, numbers-mem, numbers-rising, rising-apart}
use Rattle.spanning.specs.Labelling.{Edge}
use Rattle.spanning.specs.Tree.{Within}
use Rattle.network.specs.Yard.{joins_working, working, works}

-- ---- no bit is set

-- every station works,
pub all-work : (j : ℕ) → works 0 j ≡ true
unfolding works
all-work j = ap (λ (b : ℕ). eqb (b % 2) 0) (zero-div (2 ^ j))

-- so that the working stations are all of them,
pub all-working : (n : ℕ) → working n 0 ≡ numbers_from n 0
unfolding working
all-working n = filter-all (works 0) (numbers_from n 0) (λ j m. all-work j)

pub all-counted : (n : ℕ) → length (working n 0) ≡ n
all-counted n = ap length (all-working n) ∙ numbers-length n 0

-- and every link is usable
pub all-usable : (e : Edge) → joins_working 0 e ≡ true
unfolding joins_working
all-usable e = both (all-work e.a) (all-work e.b)

-- ---- any bits

module _ (n rest : ℕ) where
  -- the working stations are the stations that work,
  pub working-mem : {j : ℕ} → j ∈ working n rest → (j < n) × (works rest j ≡ true)
  unfolding working
  working-mem {j} m =
      let f = filter-mem (works rest) (numbers_from n 0) m in
      let r = numbers-mem n 0 j f.0 in
      (omega arith, f.1)

  pub mem-working : (j : ℕ) → j < n → works rest j ≡ true → j ∈ working n rest
  unfolding working
  mem-working j h w = mem-filter (works rest) (mem-numbers n 0 j (omega arith) (omega arith)) w

  -- no more than there are stations,
  pub working-few : length (working n rest) ≤ n
  unfolding working
  working-few = omega (arith, length-filter (works rest) (numbers_from n 0), count-le-length (works rest) (numbers_from n 0), numbers-length n 0)

  -- each once
  pub working-apart : Apart (λ x. x) (working n rest)
  unfolding working
  working-apart = rising-apart orderℕ (λ x. x) (working n rest) (pairwise-filter (works rest) _ (numbers_from n 0) (numbers-rising n 0))

  -- a usable link between stations joins two of them
  pub joins-within : (e : Edge) → e.a < n → e.b < n → joins_working rest e ≡ true → Within (working n rest) e
  unfolding joins_working
  joins-within e ha hb u =
      (mem-working e.a ha (left (works rest e.a) (works rest e.b) u), mem-working e.b hb (right (works rest e.a) (works rest e.b) u))
