use Prim.Native.Nat.{◌≤◌}
use lib.ListN.{length}
use native.Mathlib.Omega.{arith}
use Rattle.trees_costs.specs.Added.{below_at, sum-end, sum-turn}
use Rattle.trees_costs.proofs.sums.sum_of.Goals as goal

pub sum_at-sum-requires : goal.sum_at-sum-requires
sum_at-sum-requires c = below_at c.requires.0 c.loop-link.link-index c.loop-link-test.true

pub overflow_add-sum : goal.overflow_add-sum
overflow_add-sum c =
    let v = c.loop-link in
    omega (arith, sum-turn _ _ v.link-index v.sum v.invariant c.sum_at-sum.ensures c.loop-link-test.true, c.requires.1)

pub loop-link-preserved : goal.loop-link-preserved
loop-link-preserved c =
    let v = c.loop-link in
    sum-turn _ _ v.link-index v.sum v.invariant c.sum_at-sum.ensures c.loop-link-test.true

pub returns : goal.returns
returns c =
    let v = c.loop-link in
    let all : length c.args.links.now ≤ v.link-index = omega arith in
    sum-end _ c.args.links.now v.link-index v.sum v.invariant all
