-- The working ones of the stations seen so far are counted.
use Rattle.stations.specs.Counting.{Counted}
use Rattle.stations.proofs.count_working.Given as goal

abbrev pub invariant-loop : goal.invariant-loop
invariant-loop l = Counted l.rest l.counter l.count l.bits
