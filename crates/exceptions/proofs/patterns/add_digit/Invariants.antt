-- After e turns the first e patterns have their digit.
use Prim.Native.Nat.{◌≤◌}
use mathlib.Core.Path.{◌≡◌}
use lib.ListN.{length}
use Rattle.exceptions.specs.Patterns.{Added}
use Rattle.exceptions.proofs.patterns.add_digit.Given as goal

abbrev pub invariant-loop-e : goal.invariant-loop-e
invariant-loop-e l = (l.e ≤ length l.initial.patterns) × (length l.patterns ≡ length l.initial.patterns) × Added l.column l.bound l.initial.patterns l.patterns l.e
