-- The label is old, or it is not.
use borrow.Author.Tests.{eq-eqb, ne_eqb}
use Rattle.forest.proofs.successor.Goals as goal

pub returns-then-leader-old : goal.returns-then-leader-old
returns-then-leader-old c = simp (eq-eqb _ _ c.if-leader-old.true)

pub returns-else-leader-old : goal.returns-else-leader-old
returns-else-leader-old c = simp (ne_eqb _ _ c.if-leader-old.false)
