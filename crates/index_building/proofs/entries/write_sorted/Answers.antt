-- `index_building::entries::write_sorted` meets its contract: the columns have the room that ordering asks.
use Rattle.std.proofs.Common.{List, ℕ, ap, ◌∙◌}
use Rattle.index_building.specs.Entries.{entries_in}
use Rattle.index_building.proofs.entries.write_sorted.Goals as goal

pub returns : goal.returns
returns g c = c.write_numbers.ensures ∙ ap (λ (l : List ℕ). entries_in l c.args.index.now) c.order_numbers.ensures
