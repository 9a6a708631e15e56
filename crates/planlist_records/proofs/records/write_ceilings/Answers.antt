use mathlib.Core.Path.{◌≡◌, refl, ap, ◌∙◌}
use Prim.Native.Nat.{ℕ, ◌+◌, ◌*◌, ◌≤◌}
use native.Mathlib.Nat.{mul_comm}
use native.Mathlib.Omega.{arith}
use lib.IntN.{ℤ, pos}
use lib.ListN.{get_or, length}
use mir.Syntax.{w16}
use mir.Val.{SFits}
use mir.ValLaws.{to_z-of_z}
use borrow.Author.Rules.{rules}
use Rattle.network.specs.PlanList.{ceiling_bytes}
use Rattle.buffers.specs.Overwrite.{overwrite}
use Rattle.encoding.specs.Fields.{written-end, written_start, written-turn}
use Rattle.planlist_records.specs.Records.{cost_bytes}
use Rattle.planlist_records.proofs.records.write_ceilings.Goals as goal

pub loop-i-init : goal.loop-i-init
loop-i-init c = let a = c.args in (written_start cost_bytes a.y.now a.at a.out.now, refl)

pub loop-i-preserved : goal.loop-i-preserved
loop-i-preserved c =
    let l = c.loop-i in
    let a = c.args in
    let room : a.at ≤ length a.out.now = omega (arith, c.requires) in
    let x = get_or a.y.now l.i (pos 0) in
    let fits : SFits w16 x = search rules in
    let wrote = c.write_i16.ensures ∙ ap (λ (z : ℤ). overwrite l.out (a.at + 2 * l.i) (cost_bytes z)) (to_z-of_z w16 x fits) in
    let place : a.at + 2 * l.i ≡ a.at + l.i * 2 = ap (λ (k : ℕ). a.at + k) (mul_comm 2 l.i) in (
      written-turn cost_bytes 2 (λ z. refl) a.y.now a.at a.out.now l.out l.i (pos 0) l.invariant.0 (omega arith) room place
          wrote,
      c.write_i16.auto.out ∙ l.invariant.1,
    )

pub returns : goal.returns
unfolding ceiling_bytes
returns c =
    let l = c.loop-i in
    let a = c.args in
    written-end cost_bytes a.y.now a.at a.out.now l.out l.i l.invariant.0 (omega arith)
