-- The number is fetching's, and so keeps what the archive relies on.
use Rattle.planner_fetch.specs.Archive.{number-kept}
use Rattle.planner_fetch.proofs.fetch_number.Goals as goal

pub returns : goal.returns
returns c = record { reply = c.fetch_number.ensures; kept = number-kept _ _ c.fetch_number.ensures }
