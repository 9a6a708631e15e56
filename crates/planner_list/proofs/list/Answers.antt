-- The survey's check, then the walk on its network.
use Rattle.std.proofs.Common.{◌≡◌, ap, Err, List, length, rules}
use Rattle.std.proofs.Math.Path.{subst}
use Rattle.network.proofs.Cut.{cut-listed}
use Rattle.network.specs.Calls.{list_checked, list_status, status}
use Rattle.network.specs.Network.{Network}
use Rattle.walk.specs.Call.{CostsHeld}
use Rattle.planner_list.specs.Delivery.{promised, refused-held}
use Rattle.planner_list.specs.Listing.{list-accepted, list-refused}
use Rattle.planner_list.proofs.list.Goals as goal

pub returns-in_err-net : goal.returns-in_err-net
unfolding list_status
returns-in_err-net c =
    let refused = c.in_err-net.ensures in
    let buffer = c.args.buffer.now in
    let left = list-refused _ c.args.allowance buffer _ refused in
    let same : c.from_residual.result ≡ Err c.in_err-net.field-0.0 = search rules in
    let e : c.from_residual.result ≡ list_checked c.args.survey.now c.args.allowance (length buffer) = rw same left.0 in
    let s = ap status e in
    record { reply = e; leaves = left.1; promised = promised _ _ _ s left.1 (refused-held _ refused); noticed = cut-listed _ _ _ s }

pub returns : goal.returns
unfolding list_status
returns c =
    let read = c.in_ok-net.ensures in
    let left = c.list_plans.ensures in
    let e = list-accepted _ _ _ read.checked _ read.network _ _ left.reply left.leaves in
    let held = subst (λ (w : Network). CostsHeld w (status c.list_plans.result)) read.network left.held in
    let s = ap status e.0 in
    record { reply = e.0; leaves = e.1; promised = promised _ _ _ s e.1 (λ fine. held); noticed = cut-listed _ _ _ s }
