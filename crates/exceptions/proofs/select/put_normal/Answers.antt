-- A link passes where its pattern is 0.
use borrow.Author.Rules.{rules}
use Rattle.exceptions.specs.Patterns.{normal}
use Rattle.exceptions.proofs.select.put_normal.Goals as goal

pub returns : goal.returns
unfolding normal
returns c = c.put_passing.ensures (normal c.args.patterns.now) (λ e r m post. search rules)
