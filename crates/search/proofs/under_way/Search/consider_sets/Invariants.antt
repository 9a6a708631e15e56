-- What is left to try, from place i on, leads to what the whole led to at the start.
use Rattle.std.proofs.Common.{◌≡◌, IfSome}
use Rattle.search_trials.specs.Marks.{Flagged}
use Rattle.search_trials.specs.Sets.{sets}
use Rattle.search_trials.specs.Stands.{best_by}
use Rattle.search.specs.Loops.{searched, with_sets}
use Rattle.search.proofs.under_way.Search.consider_sets.Given as goal

abbrev pub invariant-loop-i : goal.invariant-loop-i
invariant-loop-i l =
    let s = l.self in
    let b = s.basis in
    IfSome l.best Flagged
    × (with_sets b.ends.now b.sums.now s.goal s.ks.now s.patterns.now b.base.now (best_by b.base.now l.best) l.odd l.i
    ≡ searched b.ends.now b.sums.now s.goal s.ks.now s.patterns.now b.base.now (best_by b.base.now l.initial.best) (sets l.odd))
