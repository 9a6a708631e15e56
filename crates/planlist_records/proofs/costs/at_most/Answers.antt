-- `planlist_records::costs::at_most` meets its contract.
use Rattle.std.proofs.Common.{rules, ◌∙◌, sym}
use Rattle.std.specs.Int.Signed.{le_z}
use Rattle.std.proofs.lemmas.Iterator.Search.{all_from_yields_List}
use Rattle.std.proofs.lemmas.Iterator.{YieldsList-from_slice, YieldsList-from_zip}
use borrow.Author.Tests.{tests}
use mir.Syntax.{w32}
use Rattle.encoding.specs.Compared.{tested}
use Rattle.planlist_records.specs.Orders.{all-pairs, at_most}
use Rattle.planlist_records.proofs.costs.at_most.Goals as goal

pub returns-then-v-w : goal.returns-then-v-w
unfolding at_most
returns-then-v-w c =
    let v = c.args.v in
    let w = c.args.w in
    let each =
    all_from_yields_List (λ p. le_z p.0 p.1) c.all.new.self _ c.all.result c.all.ensures.ran
    (YieldsList-from_zip (YieldsList-from_slice v.y cc) (YieldsList-from_slice w.y cc)) (λ x b q k. search (rules, tests)) in
    let sums = tested w32 v.sum w.sum (search rules) (search rules) (sym c.if-v-w.true) in
    rw (← sums) (each ∙ all-pairs v.y w.y c.requires)

pub returns-else-v-w : goal.returns-else-v-w
unfolding at_most
returns-else-v-w c =
    let v = c.args.v in
    let w = c.args.w in
    let sums = tested w32 v.sum w.sum (search rules) (search rules) (sym c.if-v-w.false) in
    rw (← sums) c.if-v-w.false
