-- `capi_replies::part::part_of` meets its contract, field by field.
use Rattle.capi_replies.specs.Parts.{flat-part, part-of}
use Rattle.capi_replies.proofs.part.part_of.Goals as goal

pub returns : goal.returns
returns c =
    let number = c.fetch_number-number.ensures.reply in
    let start = c.fetch_start-start.ensures in
    let links = c.fetch_links-links.ensures.reply in
    let fields = flat-part _ _ number start links in
    record { reply = fields; links = part-of _ _ fields }
