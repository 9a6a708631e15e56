-- The part is fetching's, and so keeps what the archive relies on.
use Rattle.planner_fetch.specs.Archive.{links-kept}
use Rattle.planner_fetch.proofs.fetch_links.Goals as goal

pub returns : goal.returns
returns c = record { reply = c.fetch_links.ensures; kept = links-kept _ _ c.fetch_links.ensures }
