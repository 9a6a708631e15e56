use mathlib.Core.Path.{sym, ◌∙◌}
use native.Mathlib.Omega.{arith}
use Rattle.forest.specs.Groups.{apart-led}
use Rattle.trees_drawn.specs.Drawing.{drawing-led, drawing-some}
use Rattle.trees_drawn.specs.Drawn.{draws_forest, draws-end, draws-fault, draws-turn}
use Rattle.trees_drawn.proofs.drawn.draws_forest.Goals as goal

pub loop-link-init : goal.loop-link-init
unfolding draws_forest
loop-link-init c = (rw c.new.ensures apart-led, rw c.new.ensures)

pub returns-in_default : goal.returns-in_default
returns-in_default c =
    let v = c.loop-link in
    draws-fault _ _ _ _ v.link-index v.drawn v.invariant.1 (sym c.in_default.is ∙ c.draw.ensures) c.loop-link-test.true

pub loop-link-preserved : goal.loop-link-preserved
loop-link-preserved c =
    let v = c.loop-link in
    let more = sym c.in-Some.is ∙ c.draw.ensures in (
      rw (drawing-some _ _ _ _ _ more).1 (drawing-led _ _ _ (c.requires.within _) v.invariant.0),
      draws-turn _ _ _ _ v.link-index v.drawn v.invariant.1 more c.loop-link-test.true,
    )

pub returns : goal.returns
returns c =
    let v = c.loop-link in
    draws-end _ _ _ c.args.links.now v.link-index v.drawn v.invariant.1 (omega arith)
