-- The flags that are left decide, as all the flags do: those that were passed are equal.
use Prim.Native.Nat.{◌≤◌}
use mathlib.Core.Path.{◌≡◌}
use lib.ListN.{length, drop}
use Rattle.search_trials.specs.Flags.{first}
use Rattle.search_trials.proofs.ties.first_tree.Given as goal

abbrev pub invariant-loop-i : goal.invariant-loop-i
invariant-loop-i l = (l.i ≤ length l.a) × (first l.a l.b ≡ first (drop l.i l.a) (drop l.i l.b))
