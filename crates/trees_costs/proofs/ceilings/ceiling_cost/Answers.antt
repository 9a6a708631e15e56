-- The k-th largest of the links' figures.
use borrow.Author.Rules.{rules}
use mir.Syntax.{w16}
use mir.Val.{SFits}
use mir.Facts.{to_z-of_z}
use Rattle.trees_costs.specs.Ceiling.{ceiling_of}
use Rattle.trees_costs.proofs.ceilings.ceiling_cost.Goals as goal

pub returns : goal.returns
unfolding ceiling_of
returns c =
    let f : SFits w16 c.kth_largest.result = search rules in
    rw (to_z-of_z f, c.kth_largest.ensures, c.figures_of.ensures)
