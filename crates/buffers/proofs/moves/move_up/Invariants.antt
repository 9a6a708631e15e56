-- All but the first j bytes are moved. A turn reads a byte that is not written yet.
use Rattle.std.proofs.Common.{◌≡◌, length}
use Rattle.buffers.specs.Copies.{moved}
use Rattle.buffers.proofs.moves.move_up.Given as goal

abbrev pub invariant-loop-j : goal.invariant-loop-j
invariant-loop-j l = (l.out ≡ moved l.initial.out l.from l.to l.n l.j) × (length l.out ≡ length l.initial.out)
