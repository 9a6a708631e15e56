use Rattle.std.proofs.Common.{◌≤◌, ◌<◌, ap, sym, ◌∙◌, arith, get_or, length}
use Rattle.order.proofs.Lists.{get_or-mem}
use Rattle.network.specs.Capacities.{links_held}
use Rattle.search_trials.specs.Flags.{flags-length}
use Rattle.search_trials.specs.Marks.{stays-there, without_end, without-start, without-turn}
use Rattle.search_trials.proofs.basis.Basis.put_kept.Goals as goal
use Rattle.search_trials.proofs.basis.Basis.put_kept.Goals.{In-loop-place}

pub loop-place-init : goal.loop-place-init
loop-place-init c = without-start _ _ c.args.self.now.base.now c.requires.0

pub bounds-taken-link : goal.bounds-taken-link
bounds-taken-link c =
    let flag : get_or c.args.self.now.base.now c.loop-place.place 0 < links_held = c.requires.1.below _ (get_or-mem _ _ 0 (omega arith)) in
    let n = ap length c.loop-place.invariant ∙ flags-length _ in
    omega (arith, flag)

pub loop-place-preserved : goal.loop-place-preserved
loop-place-preserved c =
    let v = c.loop-place in
    let base = c.args.self.now.base.now in
    let h : v.place < length base = omega arith in
    rw (c.stays.ensures, c.stays-in-loop-place.ensures, stays-there base c.args.lost v.place h, stays-there base c.args.lost2 v.place h)
    (without-turn _ _ _ _ c.requires.1 h v.invariant)

pub shape_of-taken : goal.shape_of-taken
shape_of-taken c = ap length c.loop-place.invariant ∙ flags-length _ ∙ sym (ap length c.requires.0)

pub returns : goal.returns
returns c =
    let h : length c.args.self.now.base.now ≤ c.loop-place.place = omega arith in
    without_end _ _ _ _ h c.loop-place.invariant
