-- The base has too few links, or what is behind the first of them is taken off its sum.
use Rattle.std.proofs.Common.{ℕ, ◌-◌, ◌≤◌, ◌<◌, ◌≡◌, ap, ◌∙◌, arith, drop, length, Some}
use Rattle.trees_costs.specs.Added.{sum_of}
use Rattle.search_trials.specs.Rest.{behind-fits, behind-known, behind-part, from_place, rest-enough, rest-few}
use Rattle.search_trials.proofs.basis.Basis.rest_of.Goals as goal
use Rattle.search_trials.proofs.basis.Basis.rest_of.Goals.{After-sum_of}

pub returns-then-self-n : goal.returns-then-self-n
returns-then-self-n c =
    let h : length c.args.self.now.base.now < c.args.goal - c.args.size = omega (arith, c.saturating_sub-n.ensures) in
    rest-few _ _ _ _ h

pub sum_of-requires : goal.sum_of-requires
sum_of-requires c =
    let n = c.saturating_sub-n.result in
    let w = c.args.self.now.ready.walk in
    rw (from_place c.args.self.now.base.now n) (behind-known _ _ w n, behind-fits _ _ w n)

-- what was taken off
off : (c : After-sum_of) → c.sum_of.result ≡ sum_of c.args.self.now.sums.now (drop c.saturating_sub-n.result c.args.self.now.base.now)
off c = c.sum_of.ensures ∙ ap (sum_of c.args.self.now.sums.now) (from_place c.args.self.now.base.now c.saturating_sub-n.result)

pub overflow_sub-result : goal.overflow_sub-result
overflow_sub-result c =
    rw (off ((goal.at.overflow_sub-result c).After-sum_of)) (behind-part _ _ c.saturating_sub-n.result c.requires)

pub returns : goal.returns
returns c =
    let n = c.saturating_sub-n.ensures in
    let h : c.args.goal - c.args.size ≤ length c.args.self.now.base.now = omega (arith, n) in
    ap (λ (k : ℕ). Some (c.args.sum - k))
    (off ((goal.at.returns c).After-sum_of) ∙ ap (λ (k : ℕ). sum_of c.args.self.now.sums.now (drop k c.args.self.now.base.now)) n)
    ∙ rest-enough _ _ _ _ c.requires h
