-- `planlist_fetching::finding::find` meets its contract. Each return by the tests that lead to it.
use Rattle.std.proofs.Common.{◌≡◌, ℕ, sym, ap, ap₂, ◌∙◌, ◌<◌, arith, false}
use Rattle.network.specs.Bytes.{mark_at}
use Rattle.network.specs.Checked.{number_of}
use Rattle.network.specs.PlanList.{plan_mark}
use Rattle.network.specs.Fetching.{damaged, head_count, is_marked}
use Rattle.network.specs.declared.refusals.Refusal.{Refusal}
use Rattle.planlist_fetching.specs.Found.{not-found, number-damaged, number-marked, number-none, whole}
use Rattle.planlist_fetching.proofs.finding.find.Goals as goal
use Rattle.planlist_fetching.proofs.finding.find.Goals.{Else-is_damaged, Else-read_u16-r, After-mark_at}

intact : (c : Else-is_damaged) → damaged c.args.list.now ≡ false
intact c = sym c.is_damaged.ensures ∙ c.if-is_damaged.false

below : (c : Else-read_u16-r) → c.args.r < head_count c.args.list.now
below c = omega (arith, c.if-read_u16-r.false, c.read_u16.ensures)

-- whether plan r has its mark
marked : (c : After-mark_at) → c.mark_at.result ≡ is_marked c.args.list.now c.args.r
marked c =
    let list = c.args.list.now in
    let mark = c.plan_mark.ensures ∙ ap plan_mark c.plan_slots.ensures.0 in
    c.mark_at.ensures ∙ ap₂ (mark_at list) c.plan_start-at.ensures.0 mark

pub returns-then-is_damaged : goal.returns-then-is_damaged
returns-then-is_damaged c =
    let a = c.args in
    not-found (number-damaged a.list.now a.r (sym c.is_damaged.ensures ∙ c.if-is_damaged.true)) (sym (ap (λ (e : Refusal). number_of e.rule) c.of.ensures))
    (λ z. let z : ◌≡◌ {A = ℕ} 12 0 = z in absurd (omega arith))

pub read_u16-requires : goal.read_u16-requires
read_u16-requires c = omega (arith, (whole c.args.list.now (intact ((goal.at.read_u16-requires c).Else-is_damaged))).long)

pub returns-then-read_u16-r : goal.returns-then-read_u16-r
returns-then-read_u16-r c =
    let a = c.args in
    let none = number-none a.list.now a.r (intact ((goal.at.returns-then-read_u16-r c).Else-is_damaged)) (omega (arith, c.if-read_u16-r.true, c.read_u16.ensures)) in
    not-found none (sym (ap (λ (e : Refusal). number_of e.rule) c.of-then-read_u16-r.ensures)) (λ z. let z : ◌≡◌ {A = ℕ} 13 0 = z in absurd (omega arith))

pub plan_start-at-requires : goal.plan_start-at-requires
plan_start-at-requires c = (intact ((goal.at.plan_start-at-requires c).Else-is_damaged), below ((goal.at.plan_start-at-requires c).Else-read_u16-r))

pub returns-then-mark_at : goal.returns-then-mark_at
returns-then-mark_at c =
    let a = c.args in
    let there = sym (marked ((goal.at.returns-then-mark_at c).After-mark_at)) ∙ c.if-mark_at.true in
    record {
      number = number-marked a.list.now a.r (intact ((goal.at.returns-then-mark_at c).Else-is_damaged)) (below ((goal.at.returns-then-mark_at c).Else-read_u16-r)) there;
      start = c.plan_start-at.ensures.0;
    }

pub returns : goal.returns
returns c =
    let a = c.args in
    let none = sym (marked ((goal.at.returns c).After-mark_at)) ∙ c.if-mark_at.false in
    not-found (number-marked a.list.now a.r (intact ((goal.at.returns c).Else-is_damaged)) (below ((goal.at.returns c).Else-read_u16-r)) none)
    (sym (ap (λ (e : Refusal). number_of e.rule) c.of-2.ensures)) (λ z. let z : ◌≡◌ {A = ℕ} 12 0 = z in absurd (omega arith))
