-- `capi::ranqustei_best` meets its contract: the answer says what the definition of the ceilings question does.
use mathlib.Core.Path.{ap, ◌∙◌}
use mir.Facts.{to_z-of_z}
use Rattle.network.specs.Calls.{says}
use Rattle.capi_replies.specs.Replies.{flat-best, flat_reply}
use Rattle.capi.proofs.ranqustei_best.Goals as goal

pub returns : goal.returns
unfolding flat_reply
returns c =
    let e = rw (to_z-of_z c.ranges.b1, to_z-of_z c.ranges.b2, to_z-of_z c.ranges.b3) at c.best.ensures in
    record {
      reply = c.from.ensures ∙ ap flat_reply e.reply;
      leaves = e.leaves;
      promised = rw c.from.ensures (flat-best _ _ _ _ (says c.best.result) e.promised);
      noticed = rw c.from.ensures e.noticed;
    }
