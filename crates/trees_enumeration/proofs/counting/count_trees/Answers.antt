use mathlib.Core.Path.{◌≡◌, ap}
use native.Mathlib.Omega.{arith}
use lib.ListN.{length}
use Rattle.trees_enumeration.specs.Enumerated.{ahead_in, ahead_in-none, ahead_in-some}
use Rattle.trees_enumeration.specs.Growing.{trees_in, trees-limit}
use Rattle.trees_enumeration.proofs.counting.count_trees.Goals as goal

pub loop-trees-init : goal.loop-trees-init
loop-trees-init c =
    let yard = c.of-trees.ensures in
    let all : trees_in c.args.shape c.args.ends.now ≡ ahead_in c.first.new.self = rw (yard.0, yard.1) at c.first.ensures.trees in
    omega (arith, ap length all)

pub overflow_add-count : goal.overflow_add-count
overflow_add-count c =
    omega (arith, ap length (ahead_in-some c.loop-trees.trees c.loop-trees-test.true), trees-limit c.args.shape c.args.ends.now c.requires.1)

pub loop-trees-smaller : goal.loop-trees-smaller
loop-trees-smaller c = omega (arith, ap length (ahead_in-some c.loop-trees.trees c.loop-trees-test.true), ap length c.advance.ensures.trees)

pub loop-trees-preserved : goal.loop-trees-preserved
loop-trees-preserved c = omega (arith, ap length (ahead_in-some c.loop-trees.trees c.loop-trees-test.true), ap length c.advance.ensures.trees)

pub returns : goal.returns
returns c = omega (arith, ap length (ahead_in-none c.loop-trees.trees c.loop-trees-test.false))
