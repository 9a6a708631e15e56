-- The ceiling costs, and the sum with the raises taken off.
use mathlib.Core.Path.{◌∙◌}
use borrow.Author.Rules.{rules}
use mir.Syntax.{w32}
use mir.Val.{SFits}
use mir.Facts.{to_z-of_z}
use Rattle.trees_costs.specs.TreeCosts.{costs_by}
use Rattle.trees_costs.proofs.costs.costs_with.Goals as goal

pub returns : goal.returns
unfolding costs_by
returns c =
    let f : SFits w32 c.lowered.result = search rules in
    let s = to_z-of_z f ∙ c.lowered.ensures in
    let y = c.ceiling_costs.ensures in
    λ i. record { sum = s i; y = y i }
