-- `index_building::entries::write_entries` meets its contract: where keys fall, the places by rising key are those from the last to the first.
use Rattle.std.proofs.Common.{List, ℕ, refl, sym, ap, ◌∙◌}
use Rattle.order.proofs.Columns.{falling-places}
use Rattle.index_building.specs.Entries.{downwards, entries_in}
use Rattle.index_building.proofs.entries.write_entries.Goals as goal

pub returns-then-falls : goal.returns-then-falls
unfolding downwards
returns-then-falls g c =
    let keys = c.args.keys.now in
    c.write_downwards.ensures
    ∙ ap (λ (l : List ℕ). entries_in l c.args.index.now) (falling-places keys (sym c.falls.ensures ∙ c.if-falls.true) refl)
