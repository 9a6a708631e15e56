-- The first j elements are copied.
use Rattle.std.proofs.Common.{◌≡◌, length}
use lib.Seq.{paste}
use Rattle.buffers.proofs.copies.copy_in.Given as goal

abbrev pub invariant-loop-j : goal.invariant-loop-j
invariant-loop-j g l = (l.out ≡ paste l.initial.out l.at l.src l.j) × (length l.out ≡ length l.initial.out)
