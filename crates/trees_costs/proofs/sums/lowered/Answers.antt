-- `trees_costs::sums::lowered` meets its contract. Both numbers are in the lower half of 32 bits, and so is their difference.
use Prim.Native.Nat.{◌^◌, ◌*◌, ◌<◌}
use mathlib.Core.Path.{◌≡◌, ap, ap₂, ◌∙◌}
use native.Mathlib.Nat.{mul-le-mul_right}
use native.Mathlib.Omega.{arith}
use lib.IntN.{pos, ◌*ℤ◌, ◌-ℤ◌}
use mir.Syntax.{w32}
use mir.Val.{SFits, hbits, of_z, to_z}
use mir.ValLaws.{to_z-of_z, to_z_pos}
use Rattle.order.proofs.Lowered.{sub-integers, sub_small}
use Rattle.network.specs.Capacities.{raise}
use Rattle.trees_costs.specs.Added.{lowered_sum}
use Rattle.trees_costs.proofs.sums.lowered.Goals as goal
use Rattle.trees_costs.proofs.sums.lowered.Goals.{Start}

-- both numbers are in the lower half of 32 bits
low : (c : Start) → (c.args.raised < 2 ^ hbits w32) × (c.args.count * raise < 2 ^ hbits w32)
low c = (omega (arith, c.requires.0), omega (arith, mul-le-mul_right raise c.requires.1))

-- what is taken off
product : (c : Start) → to_z w32 c.args.count *ℤ to_z w32 raise ≡ pos (c.args.count * raise)
product c = ap (λ z. z *ℤ pos raise) (to_z_pos w32 c.args.count (omega (arith, c.requires.1)))

-- what is left
difference : (c : Start)
    → to_z w32 c.args.raised -ℤ to_z w32 (of_z w32 (to_z w32 c.args.count *ℤ to_z w32 raise)) ≡ lowered_sum c.args.raised c.args.count
unfolding lowered_sum
difference c =
    ap₂ ◌-ℤ◌ (to_z_pos w32 c.args.raised (low c).0) (ap (λ z. to_z w32 (of_z w32 z)) (product c) ∙ to_z_pos w32 (c.args.count * raise) (low c).1)
    ∙ sub-integers c.args.raised (c.args.count * raise)

-- it fits
fits : (c : Start) → SFits w32 (lowered_sum c.args.raised c.args.count)
unfolding lowered_sum
fits c = record { sfits = sub_small c.args.raised (c.args.count * raise) (2 ^ hbits w32) (low c).0 (low c).1 }

pub returns : goal.returns
returns c = rw (difference ((goal.at.returns c).Start)) (to_z-of_z w32 (lowered_sum c.args.raised c.args.count) (fits ((goal.at.returns c).Start)))
