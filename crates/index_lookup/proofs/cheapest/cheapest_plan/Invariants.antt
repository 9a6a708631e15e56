-- `index_lookup::cheapest::cheapest_plan` meets its contract. The cheapest plan is the cheapest of the best one so far and those from r on.
use Rattle.std.proofs.Common.{◌≡◌, ◌<◌, length}
use Rattle.std.specs.Option.{ForSome}
use Rattle.index_lookup.specs.Search.{cheapest_by, plan_in, searching}
use Rattle.index_lookup.proofs.cheapest.cheapest_plan.Given as goal

abbrev pub invariant-loop-r : goal.invariant-loop-r
invariant-loop-r l =
    (searching l.keys l.bound (plan_in l.best) l.r ≡ cheapest_by l.keys l.bound) × ForSome l.best (λ b. b < length l.keys)
