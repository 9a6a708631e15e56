-- `planlist_frontier::ending::finish` meets its contract. The head is written, and then zeros behind the last record.
use mathlib.Core.Path.{◌≡◌, sym, ap, ap₂, ◌∙◌}
use mathlib.Core.List.{List, ◌++◌, append_assoc}
use Prim.Native.Nat.{ℕ, ◌+◌, ◌*◌, ◌-◌}
use lib.ListN.{length, take, drop, replicate}
use lib.Seq.{take-append-add}
use Rattle.network.specs.PlanList.{head_bytes, head_size, plan_size, plan_slots}
use Rattle.buffers.specs.Overwrite.{overwrite}
use Rattle.planlist_frontier.specs.Finished.{finished-bytes}
use Rattle.planlist_frontier.proofs.ending.finish.Goals as goal
use Rattle.planlist_frontier.proofs.ending.finish.Goals.{After-plan_size}

-- the bytes of the plans
plans-size : (c : After-plan_size)
    → let a = c.args in
    a.count * c.plan_size.result ≡ a.count * plan_size (plan_slots a.p) a.t
plans-size c =
    let a = c.args in
    ap (λ (k : ℕ). a.count * k) (c.plan_size.ensures ∙ ap (λ (slots : ℕ). plan_size slots a.t) c.plan_slots.ensures.0)

pub returns : goal.returns
unfolding overwrite
returns c =
    let a = c.args in
    let d = a.out.now in
    let n = a.count * plan_size (plan_slots a.p) a.t in
    let head = head_bytes a.count a.solved a.t a.p in
    let headed = c.write_head in
    let end = ap (λ (k : ℕ). head_size + k) (plans-size ((goal.at.returns c).After-plan_size)) in
    c.clear_from.ensures
    ∙ ap₂ (λ (k : ℕ) (o : List ℕ). take k o ++ replicate (length o - k) 0) end headed.ensures
    ∙ ap₂ (λ (l : List ℕ) (k : ℕ). l ++ replicate (k - (head_size + n)) 0)
    (take-append-add head (drop head_size d) n) (sym (ap length headed.ensures) ∙ headed.auto.out)
    ∙ append_assoc head (take n (drop head_size d)) (replicate (length d - (head_size + n)) 0)
    ∙ sym (finished-bytes d a.count a.solved a.t a.p c.requires.1)
