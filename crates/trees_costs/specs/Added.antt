-- The sum costs of a list of links, added up, and what is taken off again.
use Rattle.std.specs.Prelude.{ℕ, ◌+◌, ◌*◌, ◌≤◌, ◌<◌, ◌≡◌, refl, List, [], ◌∷◌, ℤ, drop, get_or, length}
use mathlib.Core.List.Memᴰ.{head as here}
use mathlib.Core.List.Memᴰ.{tail as there}
use Rattle.std.proofs.Common.{suc-mul, add-one, drop_of_length-le, drop-cons}
use native.Mathlib.Omega.{arith}
use Rattle.std.proofs.Math.IntN.{sub_ℕ}
use Rattle.order.specs.Lists.{◌∈◌}
use Rattle.order.proofs.Lists.{get_or-mem}
use Rattle.order.specs.Perm.{sum}
use Rattle.network.specs.Capacities.{raise}
use Rattle.network.specs.Yard.{sum_at}

-- each link is below b
pub record Below (b : ℕ) (ts : List ℕ) : Type 0 where
  pub below : (c : ℕ) → c ∈ ts → c < b

-- the raised sum costs of the links, added up
unfoldable pub sum_of : List ℕ → List ℕ → ℕ
sum_of sums ts = sum (sum_at sums) ts

-- the sum cost of `count` links, whose raised sum costs add up to `raised`
unfoldable pub lowered_sum : ℕ → ℕ → ℤ
lowered_sum raised count = sub_ℕ raised (count * raise)

pub below_at : {b : ℕ} {l : List ℕ} → Below b l → (i : ℕ) → i < length l → get_or l i 0 < b
below_at {l = l} k i h = k.below (get_or l i 0) (get_or-mem l i 0 h)

-- ---- the loop

module _ (sums l : List ℕ) where
  -- the sum so far and what is left
  pub sum-turn : (i s : ℕ) {r w : ℕ} → s + sum_of sums (drop i l) ≡ w → r ≡ sum_at sums (get_or l i 0) → i < length l → s + r + sum_of sums (drop (i + 1) l) ≡ w
  unfolding sum_of
  sum-turn i s e q h = rw (add-one, q) (let e' = rw (drop-cons l i 0 h) at e in omega arith)

  pub sum-end : (i s : ℕ) {w : ℕ} → s + sum_of sums (drop i l) ≡ w → length l ≤ i → s ≡ w
  unfolding sum_of
  sum-end i s e h = let e' = rw (drop_of_length-le l h) at e in omega arith

pub sum-le : (w : ℕ → ℕ) (b : ℕ) (ts : List ℕ) → ((c : ℕ) → c ∈ ts → w c ≤ b) → sum w ts ≤ length ts * b
sum-le w b [] h = omega arith
sum-le w b (c ∷ ts) h =
    omega (arith, h c (here refl), sum-le w b ts (λ x m. h x (there m)), suc-mul (length ts) b)
