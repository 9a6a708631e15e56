-- `index_building::ordering::order_numbers` meets its contract: the numbers of sorted rows are the places by rising key.
use Rattle.std.proofs.Common.{sym, ap, ◌∙◌, arith}
use Rattle.order.specs.Columns.{tabled}
use Rattle.order.proofs.Columns.{sorted-places}
use Rattle.index_building.proofs.ordering.order_numbers.Goals as goal

pub returns : goal.returns
returns c =
    let sorted = c.sort_rows in
    let numbers = c.count_up in
    sorted-places c.args.keys.now numbers.new.numbers sorted.new.keys sorted.new.numbers
    (numbers.ensures ∙ ap (tabled (λ r. r)) (sym c.requires.1.alike)) (omega (arith, sorted.auto, numbers.auto, c.requires.1)) sorted.ensures
