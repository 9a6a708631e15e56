-- What is left to try, from a place on, leads to what the whole led to at the start. Where the link there loses, so do those behind it.
use Rattle.std.proofs.Common.{◌≡◌, IfSome}
use Rattle.search_trials.specs.Marks.{Flagged}
use Rattle.search_trials.specs.Stands.{best_by}
use Rattle.search.specs.Loops.{tried_ones}
use Rattle.search.proofs.under_way.Search.consider_ones.Given as goal

abbrev pub invariant-loop-i : goal.invariant-loop-i
invariant-loop-i l =
    let b = l.self.basis in
    let tried = tried_ones b.ends.now b.sums.now l.self.goal b.base.now in
    IfSome l.best Flagged × (tried (best_by b.base.now l.best) l.odd l.i ≡ tried (best_by b.base.now l.initial.best) l.odd 0)
