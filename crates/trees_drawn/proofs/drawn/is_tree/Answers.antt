-- t links that draw a forest are a tree, and no other number of links is.
use mathlib.Core.Path.{◌∙◌}
use borrow.Author.Tests.{ne_eqb}
use Rattle.trees_drawn.specs.Drawn.{size-drawn, tree-drawn}
use Rattle.trees_drawn.proofs.drawn.is_tree.Goals as goal

pub returns-then-links-shape : goal.returns-then-links-shape
returns-then-links-shape c =
    c.draws_forest.ensures ∙ tree-drawn c.args.shape _ c.requires c.args.links.now c.if-links-shape.true

pub returns-else-links-shape : goal.returns-else-links-shape
returns-else-links-shape c =
    let no = ne_eqb _ _ c.if-links-shape.false in
    let none = size-drawn c.args.shape _ c.requires c.args.links.now c.if-links-shape.false in
    cc
