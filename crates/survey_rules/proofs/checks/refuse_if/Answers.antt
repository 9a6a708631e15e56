-- `survey_rules::checks::refuse_if` meets its contract. By the test.
use Rattle.network.specs.Checked.{refuse_if}
use Rattle.survey_rules.proofs.checks.refuse_if.Goals as goal

pub returns-then-bad : goal.returns-then-bad
unfolding refuse_if
returns-then-bad c = rw c.if-bad.true

pub returns-else-bad : goal.returns-else-bad
unfolding refuse_if
returns-else-bad c = rw c.if-bad.false
