-- Where m to the power of p is above the limit, the positions are counted.
use Rattle.std.proofs.Common.{arith, le-ltb}
use Rattle.survey_reading.specs.Positions.{counted-many, power-few, power-fits}
use Rattle.survey_reading.proofs.positions.too_many_positions.Goals as goal

pub pow-requires : goal.pow-requires
pow-requires c = omega (arith, power-fits c.args.shape.m c.args.shape.p c.requires.links c.requires.ceilings)

pub returns-then-pow-gt-MAX_PLANS : goal.returns-then-pow-gt-MAX_PLANS
returns-then-pow-gt-MAX_PLANS c =
    let a = c.args in
    counted-many a.shape a.ends.now a.costs.now c.count_positions.ensures

pub returns-else-pow-gt-MAX_PLANS : goal.returns-else-pow-gt-MAX_PLANS
returns-else-pow-gt-MAX_PLANS c =
    let a = c.args in
    rw (le-ltb _ _ c.if-pow-gt-MAX_PLANS.false) (power-few a.shape a.ends.now a.costs.now (rw c.pow.ensures at c.if-pow-gt-MAX_PLANS.false))
