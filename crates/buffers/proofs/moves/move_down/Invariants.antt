-- The first j bytes are moved. A turn reads a byte that is not written yet.
use Rattle.std.proofs.Common.{◌≡◌, length, drop}
use lib.Seq.{paste}
use Rattle.buffers.proofs.moves.move_down.Given as goal

abbrev pub invariant-loop-j : goal.invariant-loop-j
invariant-loop-j l = (l.out ≡ paste l.initial.out l.to (drop l.from l.initial.out) l.j) × (length l.out ≡ length l.initial.out)
