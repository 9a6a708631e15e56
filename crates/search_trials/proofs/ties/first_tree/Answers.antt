use Rattle.std.proofs.Common.{◌≤◌, ◌<◌, sym, ◌∙◌, arith, length}
use Rattle.search_trials.specs.Flags.{first-end, first_found, first-turn}
use Rattle.search_trials.proofs.ties.first_tree.Goals as goal
use Rattle.search_trials.proofs.ties.first_tree.Goals.{In-loop-i}

-- the place at a turn is one of either list
within : (c : In-loop-i)
    → (c.loop-i.i < length c.args.a.now) × (c.loop-i.i < length c.args.b.now)
within c = omega arith

pub returns-then-has-b : goal.returns-then-has-b
returns-then-has-b c =
    let w = within ((goal.at.returns-then-has-b c).In-loop-i) in
    sym (c.loop-i.invariant.1 ∙ first_found _ _ _ w.0 w.1 c.if-has-b.true)

pub loop-i-preserved : goal.loop-i-preserved
loop-i-preserved c =
    let w = within ((goal.at.loop-i-preserved c).In-loop-i) in
    (omega arith, c.loop-i.invariant.1 ∙ first-turn _ _ _ w.0 w.1 c.if-has-b.false)

pub returns : goal.returns
returns c =
    let h : length c.args.a.now ≤ c.loop-i.i = omega arith in
    sym (c.loop-i.invariant.1 ∙ first-end _ _ _ h)
