-- The search for a place, as one for the first at which a test holds: the links of the base have the first rows.
use Rattle.std.proofs.Common.{ℕ, ◌<◌, ◌≡◌, ◌∙◌, length, take, true, false, MatchOption, arith, get_or-take, length-take-le, rules}
use Rattle.spanning.proofs.Places.{first-same}
use Rattle.forest.specs.Groups.{nobody}
use Rattle.search_trials.specs.Rows.{beside_at, first-found}
use Rattle.search_trials.proofs.basis.Basis.place_beside.Goals as goal

pub returns-clause-place : goal.returns-clause-place
unfolding beside_at
returns-clause-place c =
    let s = c.args in
    let base = length s.self.now.base.now in
    let rows = take base s.self.now.history.now in
    let size : length rows ≡ base = length-take-le base s.self.now.history.now s.self.now.ready.recorded.room in
    let first : MatchOption c.position.result ((k : ℕ) → k < length rows → beside_at rows s.a s.b s.u s.v k ≡ false)
    (λ i. (i < length rows) × (beside_at rows s.a s.b s.u s.v i ≡ true) × ((k : ℕ) → k < i → beside_at rows s.a s.b s.u s.v k ≡ false)) = search rules in
    first-found _ _ _ (rw size at first)
    ∙ first-same (beside_at rows s.a s.b s.u s.v) (beside_at s.self.now.history.now s.a s.b s.u s.v) 0 base
    (λ k g h. let inside : k < base = omega arith in rw (get_or-take base s.self.now.history.now k nobody inside))
