use Rattle.trees_costs.specs.Added.{below_at}
use Rattle.trees_costs.proofs.ceilings.figures_of.Goals as goal

pub cost_at-requires : goal.cost_at-requires
cost_at-requires c = below_at c.requires.0.known c.loop-i.i c.loop-i-test.true
