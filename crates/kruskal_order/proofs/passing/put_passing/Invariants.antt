-- After so many turns the array holds those of the first links that pass, whichever test the closure is.
use Rattle.std.proofs.Common.{ℕ, ◌≡◌, ◌≤◌, Bool, length}
use Rattle.order.specs.Lists.{◌∈◌}
use Rattle.kruskal_order.specs.Collect.{Collected}
use Rattle.kruskal_order.proofs.passing.put_passing.Given as goal

abbrev pub invariant-loop-link : goal.invariant-loop-link
invariant-loop-link g l = (length l.out ≡ length l.initial.out) × (l.n ≤ l.link-index)
    × ((p : ℕ → Bool) → ((e : ℕ) (r : Bool) → e ∈ l.links → goal.F-post g l.passes e r → r ≡ p e) → Collected p l.links l.out l.n l.link-index (length l.links))
