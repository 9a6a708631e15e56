-- `index_lookup::testing::holds_index` meets its contract. Entries below the count that rise are the places by rising key, and no others are.
use mathlib.Core.Path.{sym, ◌∙◌}
use Rattle.index_lookup.specs.Known.{entries_below, holds_by, holds_not}
use Rattle.index_lookup.proofs.testing.holds_index.Goals as goal

pub rises-requires : goal.rises-requires
rises-requires c =
    (c.requires, entries_below c.args.keys.now c.args.index.now (sym c.all_below.ensures ∙ c.if-all_below.true))

pub returns-then-all_below : goal.returns-then-all_below
returns-then-all_below c =
    let a = c.args in
    holds_by a.keys.now a.index.now (sym c.all_below.ensures ∙ c.if-all_below.true) c.rises.ensures

pub returns-else-all_below : goal.returns-else-all_below
returns-else-all_below c =
    let a = c.args in
    c.if-all_below.false ∙ holds_not a.keys.now a.index.now (sym c.all_below.ensures ∙ c.if-all_below.false)
