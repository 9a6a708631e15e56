-- `planlist_records::records::write_plan` meets its contract. Writes one after the other are one write.
use mathlib.Core.Path.{◌≡◌, ap, ◌∙◌}
use Prim.Native.Nat.{◌+◌}
use native.Mathlib.Omega.{arith}
use lib.IntN.{ℤ}
use mir.Syntax.{w32}
use mir.Val.{SFits}
use mir.ValLaws.{to_z-of_z}
use borrow.Author.Rules.{rules}
use Rattle.network.specs.Bytes.{bits_of, little_endian}
use Rattle.buffers.specs.Overwrite.{overwrite}
use Rattle.planlist_records.specs.Records.{record-written}
use Rattle.planlist_records.proofs.records.write_plan.Goals as goal
use Rattle.planlist_records.proofs.records.write_plan.Goals.{Start}

-- the sum is a number of four bytes
sum_fits : (s : Start) → SFits w32 s.args.v.sum
sum_fits s = search rules

pub returns : goal.returns
returns c =
    let a = c.args in
    let o2 : c.write_i32.new.out ≡ overwrite c.copy_in.new.out (a.at + 2) (little_endian 4 (bits_of w32 a.v.sum)) =
    c.write_i32.ensures ∙ ap (λ (z : ℤ). overwrite c.copy_in.new.out (a.at + 2) (little_endian 4 (bits_of w32 z)))
    (to_z-of_z w32 a.v.sum (sum_fits ((goal.at.returns c).Start))) in
    record-written a.slots a.v a.links.now a.out.now a.at c.requires.0 (omega (arith, c.requires))
    (c.copy_in.ensures ∙ ap (overwrite a.out.now a.at) c.plan_mark-mark.ensures) o2
    c.write_ceilings.ensures c.copy_in-2.ensures
