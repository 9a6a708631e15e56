-- `planlist_records::costs::in_order` meets its contract.
use Rattle.std.proofs.Common.{◌∷◌, SFits}
use Rattle.std.proofs.lemmas.Int.{to_z-of_z}
use borrow.Author.Rules.{rules}
use mir.Syntax.{w32}
use Rattle.planlist_records.specs.Orders.{by-slices, in_order}
use Rattle.planlist_records.proofs.costs.in_order.Goals as goal

pub returns : goal.returns
unfolding in_order
returns c =
    let v = c.args.v in
    let w = c.args.w in
    let f : SFits w32 v.sum = search rules in
    let g : SFits w32 w.sum = search rules in
    by-slices (v.sum ∷ v.y) (w.sum ∷ w.y) c.le.result (simp to_z-of_z at c.le.ensures)
