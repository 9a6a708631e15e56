-- `walk_visit::settling::sides_by` meets its contract: the sides that are written over the first p.
use mathlib.Core.Path.{sym, ap, ◌∙◌}
use native.Mathlib.Omega.{arith}
use lib.ListN.{drop}
use lib.Seq.{length-take-le, take_at}
use Rattle.walk_visit.specs.Answered.{sides_by}
use Rattle.walk_visit.proofs.settling.sides_by.Goals as goal

pub returns-in-Ok : goal.returns-in-Ok
unfolding sides_by
returns-in-Ok c =
    let a = c.args in
    let p = a.shape.p in
    let sides = a.grid.sides in
    let new = c.put_own_sides in
    let size = new.auto.sides ∙ length-take-le p sides (omega (arith, c.requires.ceilings, c.requires.held)) in
    take_at new.new.sides (drop p sides) p size ∙ new.ensures
    ∙ sym (ap (sides_by a.shape a.values.now a.grid a.places.now) c.in-Ok.is)

pub returns-in-Err : goal.returns-in-Err
unfolding sides_by
returns-in-Err c =
    let a = c.args in
    let p = a.shape.p in
    let sides = a.grid.sides in
    let new = c.put_last_sides in
    let size = new.auto.sides ∙ length-take-le p sides (omega (arith, c.requires.ceilings, c.requires.held)) in
    take_at new.new.sides (drop p sides) p size ∙ new.ensures
    ∙ sym (ap (sides_by a.shape a.values.now a.grid a.places.now) c.in-Err.is)
