-- After so many turns the flags are those of the links that are kept of the first ones.
use Rattle.std.proofs.Common.{◌≡◌, take}
use Rattle.kruskal.specs.Grown.{flags_of}
use Rattle.search_trials.specs.Marks.{without}
use Rattle.search_trials.specs.Stands.{place_of}
use Rattle.search_trials.proofs.basis.Basis.put_kept.Given as goal

abbrev pub invariant-loop-place : goal.invariant-loop-place
invariant-loop-place l = l.taken ≡ flags_of (without (place_of l.self.base.now l.lost) (place_of l.self.base.now l.lost2) (take l.place l.self.base.now))
