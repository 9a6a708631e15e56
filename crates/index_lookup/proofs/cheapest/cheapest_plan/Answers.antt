use Rattle.std.proofs.Common.{rules}
use Rattle.index_lookup.specs.Search.{plan_in, searched-end, searched-start, searched-turn}
use Rattle.index_lookup.proofs.cheapest.cheapest_plan.Goals as goal

pub loop-r-init : goal.loop-r-init
unfolding plan_in
loop-r-init c = (searched-start c.args.keys.now c.args.bound, search rules)

pub loop-r-preserved : goal.loop-r-preserved
loop-r-preserved c =
    let l = c.loop-r in (
      searched-turn c.args.keys.now c.args.bound (plan_in l.best) l.r l.invariant.0 c.loop-r-test.true c.next_best-best.ensures.0,
      c.next_best-best.ensures.1,
    )

pub returns : goal.returns
returns c =
    let l = c.loop-r in
    (searched-end c.args.keys.now c.args.bound (plan_in l.best) l.r l.invariant.0 c.loop-r-test.false, l.invariant.1)
