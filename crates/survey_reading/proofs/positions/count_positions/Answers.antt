use Rattle.std.proofs.Common.{◌≡◌, ◌+◌, ◌*◌, ◌≤◌, refl, ◌∙◌, ap, arith, length, length-append, length-drop, length-take-le, take, drop, zero-mul}
use Rattle.network.specs.Yard.{usable_at}
use Rattle.survey_reading.specs.Positions.{next-left, next-part, product-none, product_small, product-turn}
use Rattle.survey_reading.proofs.positions.count_positions.Goals as goal
use Rattle.survey_reading.proofs.positions.count_positions.Goals.{After-different_values-total, In-loop}

-- the part of its ceiling lies inside
inside : (c : In-loop) → c.loop.counter * c.args.shape.m + c.args.shape.m ≤ length c.args.costs.now
inside c = next-part (usable_at c.args.shape.rest c.args.ends.now) c.args.shape.m c.args.costs.now c.args.shape.p c.loop.counter c.requires.costs-are c.loop-test.true

pub loop-init : goal.loop-init
loop-init c =
    let a = c.args in
    record { room = refl; others = rw (zero-mul a.shape.m); counted = product-none (usable_at a.shape.rest a.ends.now) a.shape.m a.costs.now }

pub split_at-requires : goal.split_at-requires
split_at-requires c =
    rw c.loop.invariant.others
    (omega (arith, inside ((goal.at.split_at-requires c).In-loop), length-drop (c.loop.counter * c.args.shape.m) c.args.costs.now))

pub overflow_mul-total : goal.overflow_mul-total
overflow_mul-total c =
    let a = c.args in
    let l = c.loop in
    let new = c.different_values-total in
    let front = length-take-le a.shape.m l.values (omega (arith, l.invariant.room, c.requires.links)) in
    let counted = product-turn (usable_at a.shape.rest a.ends.now) a.shape.m a.costs.now l.counter new.result c.split_at.result.0.now new.new.values l.invariant.counted
    (c.split_at.ensures.front ∙ ap (take a.shape.m) l.invariant.others) (inside ((goal.at.overflow_mul-total c).In-loop)) (new.auto.values ∙ front) new.ensures in
    let small = product_small a.shape.rest a.ends.now a.shape.m a.costs.now l.counter new.result l.invariant.counted c.requires.links
    (omega (arith, c.loop-test.true, c.requires.ceilings)) counted.0 in
    omega (arith, small)

pub loop-preserved : goal.loop-preserved
loop-preserved c =
    let a = c.args in
    let l = c.loop in
    let new = c.different_values-total in
    let front = length-take-le a.shape.m l.values (omega (arith, l.invariant.room, c.requires.links)) in
    let counted = product-turn (usable_at a.shape.rest a.ends.now) a.shape.m a.costs.now l.counter new.result c.split_at.result.0.now new.new.values l.invariant.counted
    (c.split_at.ensures.front ∙ ap (take a.shape.m) l.invariant.others) (inside ((goal.at.loop-preserved c).In-loop)) (new.auto.values ∙ front) new.ensures in
    record {
      room = length-append new.new.values (drop a.shape.m l.values) ∙ omega (arith, new.auto.values, front, length-drop a.shape.m l.values, l.invariant.room, c.requires.links);
      others = c.split_at.ensures.back ∙ ap (drop a.shape.m) l.invariant.others ∙ next-left (usable_at a.shape.rest a.ends.now) a.shape.m a.costs.now l.counter;
      counted = counted.1;
    }

pub returns : goal.returns
returns c =
    let e : c.loop.counter ≡ c.args.shape.p = omega arith in
    rw e at c.loop.invariant.counted
