-- `capi_replies::found::found_plan` meets its contract.
use mathlib.Core.Path.{ap, subst, ◌∙◌}
use Rattle.std.proofs.lemmas.Int.{to_z-of_z}
use mir.Syntax.{w16}
use Rattle.network.specs.IndexPromise.{LookupPromised}
use Rattle.capi_replies.specs.Flat.{flat_found, found-promised}
use Rattle.capi_replies.proofs.found.found_plan.Goals as goal

pub returns : goal.returns
returns c =
    let list = c.args.list.now in
    let index = c.args.index.now in
    let asked = rw (to_z-of_z w16 c.args.value c.ranges.value) at c.index_lookup.ensures in
    let reply = c.from.ensures ∙ ap flat_found asked.reply in
    record { reply = reply; promised = found-promised list index c.args.value reply (subst (LookupPromised list index c.args.value) asked.reply asked.promised) }
