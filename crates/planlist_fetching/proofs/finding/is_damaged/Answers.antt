-- `planlist_fetching::finding::is_damaged` meets its contract. Each test of the code is one of the definition.
use Rattle.std.proofs.Common.{sym, ap, ◌∙◌, ℕ}
use Rattle.network.specs.PlanList.{plan_size}
use Rattle.network.specs.Fetching.{head_tree_size}
use Rattle.planlist_fetching.specs.Found.{damaged-short, damaged-by}
use Rattle.planlist_fetching.proofs.finding.is_damaged.Goals as goal

pub returns-then-list-lt-HEAD_SIZE : goal.returns-then-list-lt-HEAD_SIZE
returns-then-list-lt-HEAD_SIZE c = sym (damaged-short c.args.list.now c.if-list-lt-HEAD_SIZE.true)

pub returns : goal.returns
returns c =
    let list = c.args.list.now in
    let size = c.plan_size.ensures ∙ ap (λ (k : ℕ). plan_size k (head_tree_size list)) c.plan_slots.ensures.0 in
    damaged-by list c.if-list-lt-HEAD_SIZE.false c.mark_at.ensures c.read_u16-count.ensures size
