-- `walk_visit::gridded::put_bounds` meets its contract.
use mathlib.Core.Path.{◌≡◌, sym, ap, ◌∙◌}
use native.Mathlib.Omega.{arith}
use borrow.Author.Rules.{rules}
use mir.Syntax.{w16}
use mir.Val.{to_z, of_z}
use mir.Facts.{to_z-of_z}
use lib.ListN.{length, length-set}
use lib.Seq.{take_all}
use Rattle.network.specs.Tabulate.{tabulate}
use Rattle.network.proofs.Tabulate.{tabulate-none, tabulate-turn}
use Rattle.walk_visit.specs.Found.{bound_at, bounds_at}
use Rattle.walk_visit.proofs.gridded.put_bounds.Goals as goal

pub loop-i-init : goal.loop-i-init
loop-i-init c = let a = c.args in (c.requires.1, sym (tabulate-none (bound_at a.m a.values.now a.places.now)))

pub loop-i-preserved : goal.loop-i-preserved
loop-i-preserved c =
    let l = c.loop-i in
    let a = c.args in
    let f = bound_at a.m a.values.now a.places.now in
    let held : to_z w16 (of_z w16 (f l.i)) ≡ f l.i = to_z-of_z {w = w16} {z = f l.i} (search rules) in
    (simp length-set l.invariant.0, tabulate-turn f l.bounds l.i _ (omega (arith, l.invariant.0)) l.invariant.1 held)

pub returns : goal.returns
unfolding bounds_at
returns c =
    let l = c.loop-i in
    let a = c.args in
    let e : l.i ≡ length a.places.now = omega arith in
    sym (take_all l.i l.bounds (omega (arith, l.invariant.0))) ∙ l.invariant.1 ∙ ap (tabulate (bound_at a.m a.values.now a.places.now)) e
