-- By the answer. A signed number that fits its width is passed on as it is.
use Rattle.std.proofs.Common.{◌∙◌, rules}
use borrow.Author.Rules.{sfits_of}
use lib.IntN.{pos}
use lib.ListN.{get_or}
use mir.Syntax.{w16, w32}
use mir.Val.{SFits}
use mir.Facts.{to_z-of_z}
use Rattle.capi_replies.specs.Replies.{flat-plan, flat-refused}
use Rattle.capi_replies.proofs.reply.ReplyFromResultCostsRefusal.from.Goals as goal

pub returns-in-Ok : goal.returns-in-Ok
returns-in-Ok c =
    let v = c.in-Ok.costs in
    let f : SFits w32 v.sum = search rules in
    let f1 : SFits w16 (get_or v.y 0 (pos 0)) = search rules in
    let f2 : SFits w16 (get_or v.y 1 (pos 0)) = search rules in
    let f3 : SFits w16 (get_or v.y 2 (pos 0)) = search rules in
    let sum = to_z-of_z f in
    let y1 = to_z-of_z f1 in
    let y2 = to_z-of_z f2 in
    let y3 = to_z-of_z f3 in
    (λ i. record { number = 0; place = 0; sum = sum i; y1 = y1 i; y2 = y2 i; y3 = y3 i }) ∙ flat-plan _ v c.in-Ok.is

pub returns-in-Err : goal.returns-in-Err
returns-in-Err c = rw c.number.ensures (flat-refused _ c.in-Err.refusal c.in-Err.is)
