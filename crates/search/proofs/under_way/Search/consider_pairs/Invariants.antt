-- What is left to try, from a place on, leads to what the whole led to at the start. Where the pair there loses, so do those behind it.
use Rattle.std.proofs.Common.{◌≡◌, ◌∷◌, suc, IfSome}
use Rattle.search_trials.specs.Marks.{Flagged}
use Rattle.search_trials.specs.Stands.{best_by}
use Rattle.search.specs.Loops.{with_pairs}
use Rattle.search.proofs.under_way.Search.consider_pairs.Given as goal

abbrev pub invariant-loop-other : goal.invariant-loop-other
invariant-loop-other l =
    let b = l.self.basis in
    let tried = with_pairs b.ends.now b.sums.now l.self.goal l.self.ks.now l.self.patterns.now b.base.now in
    IfSome l.best Flagged
    × (tried (best_by b.base.now l.best) (l.link ∷ l.later) (suc l.other-index) ≡ tried (best_by b.base.now l.initial.best) (l.link ∷ l.later) 1)
