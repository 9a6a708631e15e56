-- `planlist_frontier::insertion::put` meets its contract. What the pruning, the move and the write ensure, put together.
use mathlib.Core.Path.{◌≡◌, sym, ap, ◌∙◌, subst}
use mathlib.Core.List.{List, ◌∷◌}
use Prim.Native.Nat.{ℕ, ◌+◌, ◌*◌, ◌≤◌}
use native.Mathlib.Omega.{arith}
use lib.ListN.{length}
use Rattle.network.specs.PlanList.{plan_bytes}
use Rattle.buffers.specs.Overwrite.{overwrite}
use Rattle.encoding.specs.Blocks.{blocks, room_for, blocks-inserted}
use Rattle.planlist_records.specs.Records.{length-plan}
use Rattle.planlist_frontier.specs.Pruned.{pruned_level}
use Rattle.planlist_frontier.proofs.insertion.put.Goals as goal

-- the records and one more have room, and so have those that are kept
fits : (size by count room : ℕ) → by ≡ size → (count + 1) * size ≤ room → (count + 1) * by ≤ room
fits size by count room e h = rw e h

pub returns : goal.returns
returns c =
    let a = c.args in
    let z = c.plan_size-size in
    let p = c.prune-kept in
    let room = room_for p.result a.count z.result (fits _ z.result a.count (length a.plans.now) z.ensures c.requires.0) p.ensures.0 in
    let have : p.result * z.result + z.result ≤ length p.new.plans = omega (arith, room, p.auto.plans) in
    let links = a.links.now in
    let size = z.result in
    let x = plan_bytes a.slots a.v links in
    let kept = p.result in
    let out = c.write_plan.new.out in
    let bytes = c.write_plan.ensures ∙ ap (λ (o : List ℕ). overwrite o 0 x) c.move_within.ensures in
    let long = length-plan a.slots a.v links (omega (arith, c.requires.1.few, c.requires.1.held)) ∙ sym z.ensures in
    record {
      few = omega (arith, p.ensures.0);
      records-are =
          subst (λ (z : ℕ). blocks z (kept + 1) out ≡ x ∷ pruned_level a.slots a.v (blocks z a.count a.plans.now)) z.ensures
          (ap (blocks size (kept + 1)) bytes
          ∙ blocks-inserted size p.new.plans kept x have long
          ∙ ap (λ (l : List (List ℕ)). x ∷ l) p.ensures.1);
    }
