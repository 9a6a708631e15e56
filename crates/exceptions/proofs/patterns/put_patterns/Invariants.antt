-- The patterns by the ceilings from i on stand.
use Prim.Native.Nat.{◌≤◌}
use mathlib.Core.Path.{◌≡◌}
use lib.ListN.{length}
use Rattle.exceptions.specs.Patterns.{patterns_from}
use Rattle.exceptions.proofs.patterns.put_patterns.Given as goal

abbrev pub invariant-loop-i : goal.invariant-loop-i
invariant-loop-i l = (l.i ≤ length l.bounds) × (length l.patterns ≡ l.m) × (l.patterns ≡ patterns_from l.m l.costs l.bounds l.i)
