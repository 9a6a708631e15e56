-- From no link on.
use mathlib.Core.Path.{sym, ◌∙◌}
use Rattle.trees_enumeration.specs.Growing.{coming-all, standing-none}
use Rattle.trees_enumeration.proofs.growing.Trees.first.Goals as goal

pub grow-self-requires : goal.grow-self-requires
grow-self-requires c = (c.args.self.now.growable, standing-none _ _ c.args.self.now.growable _ _)

pub returns-clause-trees : goal.returns-clause-trees
returns-clause-trees c = sym (coming-all _ _ c.args.self.now.growable _) ∙ c.grow-self.ensures.trees
