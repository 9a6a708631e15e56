-- `marking::grid::put_sides` meets its contract. The invariant: the counts that are left are the first ones, and the sides of the ceilings behind these
-- are written, with the number of positions of those ceilings.
use mathlib.Core.Path.{◌≡◌}
use mathlib.Core.List.{◌++◌}
use lib.ListN.{drop, length}
use Rattle.marking.specs.Digits.{total, weights}
use Rattle.marking.specs.Sides.{sides_with}
use Rattle.marking.proofs.grid.put_sides.Given as goal

abbrev pub invariant-loop-i : goal.invariant-loop-i
invariant-loop-i l =
    let rest = l.i-iterator.iter.iter.rest.now in
    let behind = drop (length rest) l.counts in
    (length l.sides ≡ length l.counts) × (l.i-iterator.iter.count ≡ 0) × (l.counts ≡ rest ++ behind) × (l.total ≡ total behind)
    × (drop (length rest) l.sides ≡ sides_with (weights behind) behind)
