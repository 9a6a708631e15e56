-- `stations::count_working` meets its contract. Where no bit is set all stations work.
use mathlib.Core.Path.{sym}
use native.Mathlib.Omega.{arith}
use Rattle.network.proofs.Resting.{all-counted}
use Rattle.stations.specs.Counting.{count-more, count_none, counted-all, counted-few}
use Rattle.stations.proofs.count_working.Goals as goal

pub returns-then-rest-eq0 : goal.returns-then-rest-eq0
returns-then-rest-eq0 c = rw c.if-rest-eq0.true (sym (all-counted c.args.n))

pub loop-init : goal.loop-init
loop-init c = count_none _

pub overflow_add-count : goal.overflow_add-count
overflow_add-count c = omega (arith, counted-few (count-more c.loop.invariant), c.ranges.n)

pub loop-preserved : goal.loop-preserved
loop-preserved c = count-more c.loop.invariant

pub returns : goal.returns
returns c = counted-all c.loop.invariant (omega arith)
