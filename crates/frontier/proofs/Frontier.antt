-- The threshold algorithm (Gorski, Klamroth, Ruzika 2010, Algorithm 1) over any finite set of feasible solutions with a sum
-- objective and any number of ceiling objectives: the definitions. All of them compute on closed data.
-- `solved` is the walk, `found` its solutions, `plans` what is left of these without dominated ones and repeats; `listed` is the
-- promised list, defined with no walk. The theorem is `plans ≡ listed` (Plans.antt).
use Rattle.std.specs.Prelude.{List, ◌≡◌, refl, suc, length}
use Rattle.std.proofs.Common.{ap}
use Rattle.frontier.specs.Frontier.{Picks, picks-cons, picks-nil}

pub picks-length : {C : Type 0} {v : List C} {ls : List (List C)} → Picks v ls → length v ≡ length ls
picks-length picks-nil = refl
picks-length (picks-cons m p) = ap suc (picks-length p)
