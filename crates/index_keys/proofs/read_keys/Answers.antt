-- `index_keys::read_keys` meets its contract: what a loop reads plan by plan.
use Rattle.std.proofs.Common.{rules, sym, ap, ◌∙◌, arith, ℕ}
use mathlib.Core.Path.{subst⁻¹}
use Rattle.std.proofs.lemmas.List.{set-get_or}
use Rattle.network.specs.PlanList.{plan_mark, plan_size}
use Rattle.network.specs.Fetching.{head_ceilings, head_tree_size}
use Rattle.planlist_fetching.specs.Found.{whole}
use Rattle.index_keys.specs.Key.{KeysRead, slots-least}
use Rattle.index_keys.specs.Reading.{reading-end, reading-inside, reading-start, reading-stops, reading-turn}
use Rattle.index_keys.proofs.read_keys.Goals as goal

pub bounds-list-9 : goal.bounds-list-9
bounds-list-9 c = omega (arith, (whole c.args.list.now c.requires.0).long)

pub bounds-list-8 : goal.bounds-list-8
bounds-list-8 c = omega (arith, (whole c.args.list.now c.requires.0).long)

pub loop-key-init : goal.loop-key-init
loop-key-init c = reading-start c.args.list.now c.args.keys.now c.requires.1

pub mark_at-requires : goal.mark_at-requires
mark_at-requires c = omega (arith, reading-inside c.loop-key.invariant (omega (arith, c.loop-key.auto)) c.requires.0)

pub returns-then-not-mark_at : goal.returns-then-not-mark_at
returns-then-not-mark_at c =
    let mark = c.plan_mark-mark.ensures ∙ ap plan_mark c.plan_slots-slots.ensures.0 in
    let stops = reading-stops c.loop-key.invariant (omega (arith, c.loop-key.auto)) mark (sym c.if-not-mark_at.true ∙ c.mark_at.ensures) in
    rw (set-get_or c.loop-key.key-items c.loop-key.key-index 0) (subst⁻¹ (KeysRead _ _) (search rules) stops)

pub key_at-requires : goal.key_at-requires
key_at-requires c =
    let list = c.args.list.now in (
      (whole list c.requires.0).long,
      omega (arith, reading-inside c.loop-key.invariant (omega (arith, c.loop-key.auto)) c.requires.0, slots-least (head_ceilings list)),
    )

pub overflow_add-at : goal.overflow_add-at
overflow_add-at c =
    let list = c.args.list.now in
    let inside = reading-inside c.loop-key.invariant (omega (arith, c.loop-key.auto)) c.requires.0 in
    let size = c.plan_size-size.ensures ∙ ap (λ (k : ℕ). plan_size k (head_tree_size list)) c.plan_slots-slots.ensures.0 in
    search rules

pub loop-key-preserved : goal.loop-key-preserved
loop-key-preserved c =
    let list = c.args.list.now in
    let mark = c.plan_mark-mark.ensures ∙ ap plan_mark c.plan_slots-slots.ensures.0 in
    let size = c.plan_size-size.ensures ∙ ap (λ (k : ℕ). plan_size k (head_tree_size list)) c.plan_slots-slots.ensures.0 in
    reading-turn c.loop-key.invariant (omega (arith, c.loop-key.auto)) mark (sym c.if-not-mark_at.false ∙ c.mark_at.ensures) c.key_at.ensures size

pub returns : goal.returns
returns c = reading-end c.loop-key.invariant (omega (arith, c.loop-key.auto))
