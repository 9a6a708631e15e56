-- The ceiling costs of a network stand ceiling by ceiling: the part of each ceiling is what the survey says of it.
use Prim.Native.Nat.{ℕ, zero, suc, ◌+◌, ◌*◌, ◌≤◌, ◌<◌}
use Rattle.std.specs.Prelude.{◌≡◌, List, ℤ, pos, drop, take}
use Rattle.std.proofs.Math.Path.{ap}
use Rattle.std.proofs.Common.{◌∙◌, eq-or-lt_of_le, drop_at}
use Rattle.std.proofs.Math.Logic.{⊎_elim}
use Rattle.std.proofs.Math.Nat.{mul-le-mul_right, suc-mul}
use native.Mathlib.Omega.{arith}
use Rattle.std.proofs.Math.ListN.{length, length-append, length-drop}
use Rattle.std.proofs.lemmas.List.{drop-append-le}
use Rattle.std.proofs.Math.Seq.{take_all, take-append-le}
use Rattle.network.specs.Survey.{ceiling_in, ceilings_in, cost_in, costs_in, layout_of, link_count, link_start, network_of, network_with}
use Rattle.network.proofs.Tabulate.{tabulate-at, tabulate-length}
use Rattle.network.specs.Yard.{ceiling_cost, ceiling_part, cost_at}
use Rattle.network.specs.declared.Layout.{Layout}

module _ (l : Layout) (s : List ℕ) (m : ℕ) where
  pub ceiling-length : (j : ℕ) → length (ceiling_in l s m j) ≡ m
  unfolding ceiling_in
  ceiling-length j = tabulate-length _ m

  -- there are p parts of m
  pub costs-length : (p : ℕ) → length (costs_in l s m p) ≡ p * m
  unfolding costs_in
  costs-length zero = omega arith
  costs-length (suc p) = length-append (costs_in l s m p) (ceiling_in l s m p) ∙ omega (arith, costs-length p, ceiling-length p, suc-mul p m)

  -- the part of ceiling j
  pub costs-part : (p j : ℕ) → j < p → ceiling_part m (costs_in l s m p) j ≡ ceiling_in l s m j
  unfolding costs_in
  costs-part zero j h = absurd (omega arith)
  costs-part (suc p) j h =
      ⊎_elim
      (λ (q : j ≡ p).
      rw q (ap (take m) (drop_at (costs_in l s m p) (ceiling_in l s m p) (p * m) (costs-length p))
      ∙ take_all m (ceiling_in l s m p) (omega (arith, ceiling-length p))))
      (λ (q : j < p).
      let inside : j * m + m ≤ length (costs_in l s m p) = omega (arith, costs-length p, mul-le-mul_right m q, suc-mul j m) in
      ap (take m) (drop-append-le (j * m) (costs_in l s m p) (ceiling_in l s m p) (omega arith))
      ∙ take-append-le m (drop (j * m) (costs_in l s m p)) (ceiling_in l s m p) (omega (arith, length-drop (j * m) (costs_in l s m p)))
      ∙ costs-part p j q)
      (eq-or-lt_of_le (omega arith))

-- THE THEOREM: the cost of each link by each ceiling is the one that the survey's bytes say
pub cost-said : (s : List ℕ) (i j : ℕ) → i < link_count (layout_of s) s → j < ceilings_in s
    → ceiling_cost (network_of s) j i ≡ cost_in s (link_start (layout_of s) i) j
unfolding network_with ceiling_in
cost-said s i j h g =
    let l = layout_of s in
    let m = link_count l s in
    ap (λ (column : List ℤ). cost_at column i) (costs-part l s m (ceilings_in s) j g) ∙ tabulate-at (λ i. cost_in s (link_start l i) j) m i h (pos 0)
