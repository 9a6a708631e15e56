-- After so many turns the array holds what is kept of as many links; with what is kept of the rest that is the whole.
use Prim.Native.Nat.{◌≤◌}
use mathlib.Core.Path.{◌≡◌}
use lib.ListN.{length}
use Rattle.network.specs.Capacities.{patterns_held}
use Rattle.exceptions.specs.Keep.{AllLed, gathered, kept_by}
use Rattle.exceptions.proofs.keep.put_exceptions.Given as goal

abbrev pub invariant-loop-e : goal.invariant-loop-e
invariant-loop-e l = (length l.odd ≡ length l.initial.odd)
    × (length l.forests ≡ patterns_held)
    × AllLed l.forests
    × (l.n ≤ l.e-index)
    × (gathered l.ends l.patterns l.fit l.order l.forests l.odd l.n l.e-index ≡ kept_by l.ends l.patterns l.fit l.initial.forests l.order)
