-- `capi::ranqustei_judge` meets its contract: the answer says what the judge's definition does.
use mathlib.Core.Path.{ap, ◌∙◌}
use Rattle.network.specs.Calls.{says}
use Rattle.capi_replies.specs.Replies.{flat-judge, flat_reply}
use Rattle.capi.proofs.ranqustei_judge.Goals as goal

pub returns : goal.returns
unfolding flat_reply
returns c =
    let judged = c.judge.ensures in
    record {
      reply = c.from.ensures ∙ ap flat_reply judged.reply;
      promised = rw c.from.ensures (flat-judge _ _ (says c.judge.result) judged.promised);
      noticed = rw c.from.ensures judged.noticed;
    }
