-- Sum costs are kept raised by 1,000,000. What was raised is got back, so the sum cost of a link in the network is the one that the survey says.
use Rattle.std.specs.Prelude.{ℕ, suc, ◌-◌, ◌≤◌, ◌<◌, ◌≡◌, refl, false, List, ltb, ℤ, pos, negsuc, ◌+ℤ◌, ◌-ℤ◌, get_or, length}
use Rattle.std.proofs.Common.{sym, ap, ◌∙◌, arith, ltb-false}
use Rattle.std.proofs.Math.IntN.{sub_ℕ, +ℤ-neg_ℤ_cancel}
use Rattle.order.specs.Lowered.{sub-above}
use Rattle.network.specs.Limits.{max_sum}
use Rattle.network.specs.Capacities.{raise, sum_held}
use Rattle.network.proofs.Tabulate.{tabulate-at, tabulate-length}
use Rattle.network.specs.Survey.{layout_of, link_count, link_start, network_of, network_with, raised, sum_in, sums_in}
use Rattle.network.specs.Refusals.{bad_sum, checked_of}
use Rattle.network.specs.Yard.{sum_cost}
use Rattle.network.specs.Accepted.{RecordsFine}
use Rattle.network.proofs.Accepted.{accepted-records, or-false}
use Rattle.network.specs.Checked.{no_refusal}
use Rattle.network.specs.declared.Layout.{Layout}

-- a sum cost in its range is at most 2,000,000 when raised
pub raised-small : (z : ℤ) → bad_sum z ≡ false → raised z ≤ sum_held
unfolding bad_sum raised
raised-small (pos n) e = let high = ltb-false max_sum n e in omega arith
raised-small (negsuc n) e = omega arith

-- raising adds 1,000,000
pub raised-sum : (z : ℤ) → bad_sum z ≡ false → z +ℤ pos raise ≡ pos (raised z)
unfolding bad_sum raised
raised-sum (pos n) e = refl
raised-sum (negsuc n) e =
    let low = ltb-false (max_sum - 1) n (or-false (ltb (max_sum - 1) n) false e).0 in
    sub-above raise (suc n) (omega arith)

-- 1,000,000 less than the raised sum cost is the sum cost
raised-back : (z : ℤ) → bad_sum z ≡ false → sub_ℕ (raised z) raise ≡ z
raised-back z e = ap (λ (r : ℤ). r -ℤ pos raise) (sym (raised-sum z e)) ∙ +ℤ-neg_ℤ_cancel z (pos raise)

-- entry i of the column is the raised sum cost of link i
pub raised_at : (s : List ℕ) (l : Layout) (m i : ℕ) → i < m → get_or (sums_in l s m) i 0 ≡ raised (sum_in s (link_start l i))
unfolding sums_in
raised_at s l m i h = tabulate-at (λ i. raised (sum_in s (link_start l i))) m i h 0

-- the column has one for each link
pub sums-length : (l : Layout) (s : List ℕ) (m : ℕ) → length (sums_in l s m) ≡ m
unfolding sums_in
sums-length l s m = tabulate-length (λ i. raised (sum_in s (link_start l i))) m

-- THE THEOREM: the sum cost of each link of an accepted survey is the one that its bytes say
pub sum_said : (s : List ℕ) → checked_of s ≡ no_refusal → (i : ℕ) → i < link_count (layout_of s) s → sum_cost (network_of s) i ≡ sum_in s (link_start (layout_of s) i)
unfolding network_with
sum_said s e i h =
    let l = layout_of s in
    let fine : RecordsFine s l = accepted-records s e in
    ap (λ (n : ℕ). sub_ℕ n raise) (raised_at s l (link_count l s) i h) ∙ raised-back (sum_in s (link_start l i)) (fine.link i h).priced
