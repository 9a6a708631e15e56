-- `planner_small::small_survey` meets its contract: each of its three ways is a law.
use borrow.Author.Rules.{rules}
use Rattle.planner_small.specs.Calling.{by_number, by-room, by-survey}
use Rattle.planner_small.proofs.small_survey.Goals as goal

pub returns-then-q-ge-SURVEYS : goal.returns-then-q-ge-SURVEYS
returns-then-q-ge-SURVEYS c =
    let way = by_number c.args.q c.args.survey.now (search rules) in
    record { reply = rw c.of.ensures way.0; leaves = way.1.0; promised = rw c.of.ensures way.1.1 }

pub returns-then-survey-lt-BYTES : goal.returns-then-survey-lt-BYTES
returns-then-survey-lt-BYTES c =
    let way = by-room c.args.q c.args.survey.now (search rules) (search rules) in
    record { reply = rw c.of-then-survey-lt-BYTES.ensures way.0; leaves = way.1.0; promised = rw c.of-then-survey-lt-BYTES.ensures way.1.1 }

pub returns : goal.returns
returns c =
    let way = by-survey c.args.q c.args.survey.now (search rules) (search rules) c.write_numbered.ensures in
    record { reply = way.0; leaves = way.1.0; promised = way.1.1 }
