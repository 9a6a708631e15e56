-- `index_building::ordering::count_up` meets its contract. The invariant: the first r numbers are counted.
use mathlib.Core.Path.{◌≡◌}
use Prim.Native.Nat.{◌-◌, ◌≤◌}
use lib.ListN.{length, take}
use Rattle.order.specs.Columns.{tabled}
use Rattle.index_building.proofs.ordering.count_up.Given as goal

abbrev pub invariant-loop-r : goal.invariant-loop-r
invariant-loop-r l = (take l.r l.numbers ≡ tabled (λ x. x) l.r) × (l.r ≤ length l.initial.numbers) × (length l.numbers ≡ length l.initial.numbers)

abbrev pub decreases-loop-r : goal.decreases-loop-r
decreases-loop-r l = length l.initial.numbers - l.r
