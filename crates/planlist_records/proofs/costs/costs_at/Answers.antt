-- `planlist_records::costs::costs_at` meets its contract. Each field is what its reader ensures.
use Rattle.std.specs.Prelude.{pos}
use Rattle.std.proofs.Common.{◌∙◌}
use borrow.Author.Rules.{rules}
use borrow.Author.Tests.{tests}
use mir.Syntax.{w32}
use mir.ValLaws.{to_z-of_z}
use Rattle.network.specs.PlanList.{costs_at, plan_ceiling}
use Rattle.planlist_records.specs.Held.{tabulate-made}
use Rattle.planlist_records.proofs.costs.costs_at.Goals as goal

pub returns : goal.returns
unfolding costs_at
returns c =
    let a = c.args in
    let sum = to_z-of_z w32 c.read_i32.result (search rules) ∙ c.read_i32.ensures in
    let y =
    tabulate-made _ _ (plan_ceiling a.slots a.s.now a.at) (λ i r q k. search (rules, tests)) c.from_fn.result 3 c.from_fn.ensures.items (pos 0) in
    λ i. record { sum = sum i; y = y i }
