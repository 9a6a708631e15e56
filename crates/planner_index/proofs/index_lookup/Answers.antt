-- `planner_index::index_lookup` meets its contract.
use Rattle.std.proofs.Common.{◌≡◌, ◌∙◌, Err, sym}
use Rattle.network.specs.Indexing.{lookup_reply, says_found}
use Rattle.std.proofs.lemmas.Int.{to_z-of_z}
use mir.Syntax.{w16}
use Rattle.index_building.specs.Replies.{unfit-damaged}
use Rattle.index_lookup.specs.Finding.{looked-unfit}
use Rattle.planner_index.specs.Kept.{lookup-promised, says-looked}
use Rattle.planner_index.proofs.index_lookup.Goals as goal

pub returns-then-is_damaged : goal.returns-then-is_damaged
returns-then-is_damaged c =
    let list = c.args.list.now in
    let index = c.args.index.now in
    let damaged = sym c.is_damaged.ensures ∙ c.if-is_damaged.true in
    let reply : says_found (Err c.of.result) ≡ lookup_reply list index c.args.y =
    rw c.of.ensures (says-looked list index c.args.y (looked-unfit list index c.args.y (unfit-damaged list damaged))) in
    record { reply = reply; promised = lookup-promised list index c.args.y c.type_inv.index reply }

pub find-requires : goal.find-requires
find-requires c = sym c.is_damaged.ensures ∙ c.if-is_damaged.false

pub returns : goal.returns
returns c =
    let list = c.args.list.now in
    let index = c.args.index.now in
    let reply = says-looked list index c.args.y (rw (to_z-of_z w16 c.args.y c.ranges.y) at c.find.ensures) in
    record { reply = reply; promised = lookup-promised list index c.args.y c.type_inv.index reply }
