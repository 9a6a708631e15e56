-- `marking::grid::grid_of` meets its contract.
use mathlib.Core.List.{List}
use mathlib.Core.Path.{◌≡◌, sym, ◌∙◌}
use Prim.Native.Nat.{◌*◌}
use native.Mathlib.Omega.{arith}
use lib.ListN.{drop, length, replicate, take}
use lib.Seq.{length_front, length-take-le, take_at}
use Rattle.network.specs.Capacities.{ceilings_held}
use Rattle.marking.specs.Gridded.{filled-few, filled-grid}
use Rattle.marking.specs.Sides.{no_side}
use Rattle.marking.specs.declared.mark.Side.{Side}
use Rattle.marking.proofs.grid.grid_of.Goals as goal
use Rattle.marking.proofs.grid.grid_of.Goals.{After-values_of-counts}

-- the sides at first
abbrev none : List Side
none = replicate ceilings_held no_side

-- the first p counts, and sides
counts-front : (c : After-values_of-counts) → c.args.shape.p ≡ length (take c.args.shape.p c.values_of-counts.result)
counts-front c =
    sym (length-take-le c.args.shape.p c.values_of-counts.result (omega (arith, c.requires.1, c.values_of-counts.ensures.0)))

sides-front : (c : After-values_of-counts) → c.args.shape.p ≡ length (take c.args.shape.p none)
sides-front c = sym (length-take-le c.args.shape.p none c.requires.1.ceilings)

-- the array is as long as it was
array-is : (c : After-values_of-counts) → length c.values_of-counts.new.values ≡ c.args.shape.p * c.args.shape.m
array-is c = c.values_of-counts.auto.values ∙ c.requires.1.array-is

pub slice_bounds-put_sides-end : goal.slice_bounds-put_sides-end
slice_bounds-put_sides-end c = counts-front ((goal.at.slice_bounds-put_sides-end c).After-values_of-counts)

pub slice_bounds-put_sides-end-2 : goal.slice_bounds-put_sides-end-2
slice_bounds-put_sides-end-2 c = sides-front ((goal.at.slice_bounds-put_sides-end-2 c).After-values_of-counts)

pub put_sides-total-requires : goal.put_sides-total-requires
put_sides-total-requires c =
    let can = c.requires.1 in
    let here = (goal.at.put_sides-total-requires c).After-values_of-counts in
    let new = c.values_of-counts.ensures in
    (filled-few new.1 (array-is here) new.0 can.ceilings can.links, sym (sides-front here) ∙ counts-front here)

pub returns : goal.returns
returns c =
    let here = (goal.at.returns c).After-values_of-counts in
    let p = c.args.shape.p in
    let new = c.values_of-counts.ensures in
    let after = c.put_sides-total in
    let same = after.auto.sides in
    filled-grid new.1 (array-is here) new.0 c.requires.1.ceilings (length_front none after.new.sides p same)
    (take_at after.new.sides (drop p none) p (same ∙ sym (sides-front here)) ∙ after.ensures.1) after.ensures.0
