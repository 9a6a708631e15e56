-- The working stations counted one after another: after j stations, what is left of the bits are those from j on.
use Rattle.std.specs.Prelude.{ℕ, suc, ◌+◌, ◌/◌, ◌%◌, ◌^◌, ◌≤◌, ◌≡◌, Bool, cond, [], ◌∷◌, ◌++◌, eqb}
use Rattle.std.proofs.Math.Path.{refl, ap}
use Rattle.std.proofs.Common.{◌∙◌, div-one, pow-suc, zero-add, add-one, arith, length-append}
use Rattle.std.proofs.Math.Bool.{true, false}
use Rattle.std.proofs.Math.Nat.{div-div-eq-div-mul, pow-zero}
use Rattle.std.proofs.Math.ListN.{length}
use mir.Val.{bool_byte}
use Rattle.order.specs.Lists.{filter, numbers_from}
use Rattle.order.proofs.Lists.{filter-append}
use Rattle.order.proofs.Sorted.{numbers_more}
use Rattle.network.proofs.Resting.{working-few}
use Rattle.network.specs.Yard.{working, works}

module _ (rest j : ℕ) where
  -- the working stations up to one more
  working-more : working (suc j) rest ≡ working j rest ++ filter (works rest) (j ∷ [])
  unfolding working
  working-more =
      ap (filter (works rest)) (numbers_more j 0 ∙ ap (λ (x : ℕ). numbers_from j 0 ++ (x ∷ [])) (zero-add j))
      ∙ filter-append (works rest) (numbers_from j 0) (j ∷ [])

  more-length : length (working (suc j) rest) ≡ length (working j rest) + length (filter (works rest) (j ∷ []))
  more-length = ap length working-more ∙ length-append (working j rest) (filter (works rest) (j ∷ []))

-- after j stations: how many of them work, and the bits from j on
pub record Counted (rest j count above : ℕ) : Type 0 where
  pub counts : count ≡ length (working j rest)
  pub left : above ≡ rest / 2 ^ j

pub count_none : (rest : ℕ) → Counted rest 0 0 rest
unfolding working numbers_from
count_none rest = record { counts = refl; left = rw (pow-zero 2, div-one rest) }

module _ {rest j count above : ℕ} (c : Counted rest j count above) where
  -- the bits after one more
  next : above / 2 ≡ rest / 2 ^ (j + 1)
  next = rw (c.left, add-one, pow-suc 2 j) (div-div-eq-div-mul rest (2 ^ j) 2)

  -- one station more, which works where its bit is 0
  pub count-more : Counted rest (j + 1) (count + bool_byte (eqb (above % 2) 0)) (above / 2)
  unfolding works
  count-more =
      let more = more-length rest j in
      record { counts = rw (add-one, c.left) (omega (arith, c.counts, more, bit (eqb (rest / 2 ^ j % 2) 0))); left = next }
    where
      bit : (b : Bool) → bool_byte b ≡ length (cond b (j ∷ []) [])
      bit true = refl
      bit false = refl

  -- no more are counted than were seen
  pub counted-few : count ≤ j
  counted-few = omega (arith, c.counts, working-few j rest)

  -- all stations are seen
  pub counted-all : {n : ℕ} → j ≡ n → count ≡ length (working n rest)
  counted-all q = c.counts ∙ ap (λ (k : ℕ). length (working k rest)) q
