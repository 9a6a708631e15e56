-- What is left to write, from a link and a place on, is what there was to write at the start.
use Rattle.std.proofs.Common.{◌+◌, ◌≡◌, drop, length}
use Rattle.search_trials.specs.Flags.{rising}
use Rattle.solver.specs.Buffer.{left, put_at}
use Rattle.solver.proofs.tree_buffer.put_links.Given as goal

abbrev pub invariant-loop-link : goal.invariant-loop-link
invariant-loop-link l = (length l.tree ≡ length l.initial.tree) × (l.n + length (rising l.link (drop l.link l.taken)) ≡ l.t)
    × (left l.taken l.tree l.n l.link ≡ put_at 0 (rising 0 l.taken) l.initial.tree)
