use mathlib.Core.Path.{◌≡◌, refl, ap, ◌∙◌}
use native.Mathlib.Omega.{arith}
use lib.ListN.{length, length-set}
use Rattle.order.specs.Columns.{tabled}
use Rattle.order.proofs.Columns.{tabled-end, tabled_start, tabled-turn}
use Rattle.index_building.proofs.ordering.count_up.Goals as goal

pub loop-r-init : goal.loop-r-init
loop-r-init c = let a = c.args.numbers in (tabled_start (λ x. x) a.now, omega arith, refl)

pub loop-r-preserved : goal.loop-r-preserved
loop-r-preserved c =
    let l = c.loop-r in
    let a = c.args.numbers in
    (tabled-turn (λ x. x) l.numbers l.r l.invariant.0 (omega arith) refl, omega arith, simp length-set l.invariant.2)

pub shape_of-numbers : goal.shape_of-numbers
shape_of-numbers c = c.loop-r.invariant.2

pub returns : goal.returns
returns c =
    let l = c.loop-r in
    let a = c.args.numbers in
    let all : l.r ≡ length a.now = omega (arith, l.invariant.1) in
    tabled-end (λ x. x) l.numbers l.r l.invariant.0 (omega (arith, l.invariant.2)) ∙ ap (tabled (λ x. x)) all
