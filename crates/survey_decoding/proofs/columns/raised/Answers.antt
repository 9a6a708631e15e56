-- `survey_decoding::columns::raised` meets its contract. The sum with 1,000,000 is a natural number, and small.
use Prim.Native.Nat.{◌^◌, ◌<◌}
use mathlib.Core.Path.{◌≡◌, refl, ap, ◌∙◌}
use native.Mathlib.Omega.{arith}
use lib.IntN.{pos, ◌+ℤ◌}
use mir.Syntax.{w32}
use mir.Val.{hbits, of_z, to_z}
use mir.ValLaws.{to_z-of_z, to_z_pos}
use Rattle.network.specs.Capacities.{raise}
use Rattle.network.specs.Survey as spec
use Rattle.network.proofs.Sums.{raised-small, raised-sum}
use Rattle.survey_decoding.proofs.columns.raised.Goals as goal
use Rattle.survey_decoding.proofs.columns.raised.Goals.{Start}

-- the raised sum is in the lower half of 32 bits
low : (c : Start) → spec.raised c.args.sum < 2 ^ hbits w32
low c = omega (arith, raised-small c.args.sum c.requires)

-- the sum that the code makes
made : (c : Start) → to_z w32 (of_z w32 c.args.sum) +ℤ to_z w32 raise ≡ pos (spec.raised c.args.sum)
made c = ap (λ z. z +ℤ pos raise) (to_z-of_z w32 c.args.sum c.ranges.sum) ∙ raised-sum c.args.sum c.requires

pub overflow_add-result : goal.overflow_add-result
overflow_add-result c = rw (made ((goal.at.overflow_add-result c).Start)) (record { sfits = low ((goal.at.overflow_add-result c).Start) })

pub overflow_cast-result : goal.overflow_cast-result
overflow_cast-result c = rw (made ((goal.at.overflow_cast-result c).Start), to_z_pos w32 (spec.raised c.args.sum) (low ((goal.at.overflow_cast-result c).Start))) (tt, record { fits = omega (arith, low ((goal.at.overflow_cast-result c).Start)) })

pub returns : goal.returns
returns c = rw (made ((goal.at.returns c).Start), to_z_pos w32 (spec.raised c.args.sum) (low ((goal.at.returns c).Start))) refl
