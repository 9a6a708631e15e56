-- What holds of the layout of any survey, shown over the table of the layouts that are known.
use Rattle.std.specs.Prelude.{◌+◌, ◌≤◌, ◌<◌}
use Rattle.network.specs.Limits.{max_ceilings}
use Rattle.network.specs.Survey.{count_at, rest_at, link_size, rest_size, yard_size}
use Rattle.network.specs.declared.Layout.{Layout}

-- the records of a layout have room for the fields that all share, and the yard record for its link count and its stations at rest
pub record Roomy (l : Layout) : Type 0 where
  pub yard : yard_size l.slots ≤ l.yard.size
  pub count : count_at l < l.yard.size
  pub rest : rest_at l + rest_size ≤ l.yard.size
  pub link : link_size l.slots ≤ l.link.size
  -- for no more ceilings than there may be
  pub ceilings : l.slots ≤ max_ceilings
