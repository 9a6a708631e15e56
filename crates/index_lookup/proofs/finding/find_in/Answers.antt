-- `index_lookup::finding::find_in` meets its contract.
use Rattle.std.proofs.Common.{◌≡◌, sym, ap, ◌∙◌, rules}
use Rattle.std.specs.Option.{ok_or}
use mir.Facts.{to_z-of_z}
use mir.Syntax.{w16}
use Rattle.network.specs.Bytes.{bits_of}
use Rattle.index_keys.specs.Key.{raised16}
use Rattle.index_lookup.specs.Search.{cheapest_by, plan_in}
use Rattle.index_lookup.specs.Finding.{found-by, found_in, found-other}
use Rattle.index_lookup.proofs.finding.find_in.Goals as goal
use Rattle.index_lookup.proofs.finding.find_in.Goals.{After-ok_or}

-- the cheapest by keys is the plan that was found
answer : (c : After-ok_or) → cheapest_by c.args.keys.now (raised16 (bits_of w16 c.args.y)) ≡ plan_in c.cheapest_plan.result
unfolding bits_of
answer c =
    let bits = rw (to_z-of_z c.ranges.y) at c.cast_unsigned.ensures in
    sym (c.cheapest_plan.ensures.0 ∙ ap (cheapest_by c.args.keys.now) (c.raised16-bound.ensures ∙ ap raised16 bits))

pub returns-then-not-holds_index : goal.returns-then-not-holds_index
returns-then-not-holds_index c =
    rw c.of.ensures (found-other c.args.keys.now c.args.index.now c.args.y (sym c.holds_index.ensures ∙ c.if-not-holds_index.true))

-- what was found, or the refusal
found : (c : After-ok_or) → c.ok_or.result ≡ found_in c.args.keys.now c.args.index.now c.args.y
found c =
    let held = sym c.holds_index.ensures ∙ c.if-not-holds_index.false in
    c.ok_or.ensures.value ∙ ap (ok_or c.cheapest_plan.result) c.of-2.ensures
    ∙ found-by c.args.keys.now c.args.index.now c.args.y c.cheapest_plan.result held (answer c)

pub returns-in_err-r : goal.returns-in_err-r
returns-in_err-r c =
    let a = found ((goal.at.returns-in_err-r c).After-ok_or) in
    search rules

pub returns : goal.returns
returns c = sym c.in_ok-r.was ∙ found ((goal.at.returns c).After-ok_or)
