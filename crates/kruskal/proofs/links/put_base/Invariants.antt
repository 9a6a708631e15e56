-- After so many links the arrays hold what is kept of them, with the groups after each link; no more than `goal` links are kept.
use Rattle.std.proofs.Common.{length, ◌≡◌}
use Rattle.kruskal.specs.Basing.{Basing}
use Rattle.kruskal.proofs.links.put_base.Given as goal

abbrev pub invariant-loop-link : goal.invariant-loop-link
invariant-loop-link l =
    (length l.base ≡ length l.initial.base) × (length l.history ≡ length l.initial.history)
    × Basing l.ends l.sums l.links l.forest l.base l.history l.count l.sum l.link-index
