use Prim.Native.Nat.{◌<◌}
use mathlib.Core.Path.{◌≡◌, ◌∙◌}
use native.Mathlib.Nat.{zero-mul}
use native.Mathlib.Omega.{arith}
use borrow.Author.Rules.{rules}
use lib.ListN.{length, get_or, take}
use lib.Seq.{get_or-take, length-take-le}
use mir.Syntax.{w16}
use mir.Val.{SFits}
use mir.Facts.{to_z-of_z}
use Rattle.trees_costs.specs.TreeCosts.{ceilings-end, ceilings-none, ceilings-turn, columns-turn}
use Rattle.trees_costs.proofs.costs.ceiling_costs.Goals as goal
use Rattle.trees_costs.proofs.costs.ceiling_costs.Goals.{In-loop-i}

-- as many ranks are gone through as there are ceilings
all : (c : In-loop-i) → length (take c.args.shape.p c.args.shape.k) ≡ c.args.shape.p
all c = length-take-le c.args.shape.p c.args.shape.k (omega (arith, c.requires.room, c.requires.few-ceilings))

-- a ceiling at its turn
present : (c : In-loop-i) → c.loop-i.i < c.args.shape.p
present c = omega (arith, all c)

rank : (c : In-loop-i) → get_or (take c.args.shape.p c.args.shape.k) c.loop-i.i 0 ≡ get_or c.args.shape.k c.loop-i.i 0
rank c = get_or-take c.args.shape.p c.args.shape.k c.loop-i.i 0 (present c)

pub loop-i-init : goal.loop-i-init
loop-i-init c = (rw (zero-mul c.args.shape.m), ceilings-none _ _ _ _)

pub loop-i-preserved : goal.loop-i-preserved
loop-i-preserved c =
    let v = c.loop-i in
    let f : SFits w16 c.ceiling_cost.result = search rules in
    let cost = rw c.split_at.ensures.front at c.ceiling_cost.ensures in (
      c.split_at.ensures.back ∙ columns-turn _ _ v.i v.invariant.0,
      rw (to_z-of_z f) (ceilings-turn _ _ _ _ v.i v.invariant.1 v.invariant.0 (rank ((goal.at.loop-i-preserved c).In-loop-i)) cost),
    )

pub returns : goal.returns
returns c =
    let v = c.loop-i in
    let n : length (take c.args.shape.p c.args.shape.k) ≡ c.args.shape.p =
    length-take-le c.args.shape.p c.args.shape.k (omega (arith, c.requires.room, c.requires.few-ceilings)) in
    ceilings-end c.args.shape _ _ v.i v.invariant.1 (omega arith)
