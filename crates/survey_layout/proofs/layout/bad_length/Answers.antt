-- `survey_layout::layout::bad_length` meets its contract. At each return the test that led there says which case holds.
use borrow.Author.Tests.{lt-ltb, le-ltb}
use Rattle.network.specs.Refusals.{bad_length}
use Rattle.survey_layout.proofs.layout.bad_length.Goals as goal

pub returns-then-len-l : goal.returns-then-len-l
unfolding bad_length
returns-then-len-l c = rw (lt-ltb _ _ c.if-len-l.true)

pub returns-else-len-l : goal.returns-else-len-l
unfolding bad_length
returns-else-len-l c = rw (le-ltb _ _ c.if-len-l.false)
