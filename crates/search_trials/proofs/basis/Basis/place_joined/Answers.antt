-- The search for a place, as one for the first at which a test holds: the links of the base have the first rows.
use Rattle.std.proofs.Common.{ℕ, ◌<◌, ◌≡◌, ◌∙◌, length, take, true, false, MatchOption, arith, get_or-take, length-take-le, rules}
use Rattle.spanning.proofs.Places.{first-same}
use Rattle.forest.specs.Groups.{nobody}
use Rattle.search_trials.specs.Rows.{first-found, joined_at}
use Rattle.search_trials.proofs.basis.Basis.place_joined.Goals as goal

pub returns-clause-place : goal.returns-clause-place
unfolding joined_at
returns-clause-place c =
    let a = c.args in
    let base = length a.self.now.base.now in
    let rows = take base a.self.now.history.now in
    let size : length rows ≡ base = length-take-le base a.self.now.history.now a.self.now.ready.recorded.room in
    let first : MatchOption c.position.result ((k : ℕ) → k < length rows → joined_at rows a.u a.v k ≡ false)
    (λ i. (i < length rows) × (joined_at rows a.u a.v i ≡ true) × ((k : ℕ) → k < i → joined_at rows a.u a.v k ≡ false)) = search rules in
    first-found _ _ _ (rw size at first)
    ∙ first-same (joined_at rows a.u a.v) (joined_at a.self.now.history.now a.u a.v) 0 base
    (λ k g h. let inside : k < base = omega arith in rw (get_or-take base a.self.now.history.now k nobody inside))
