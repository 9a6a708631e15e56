-- `planner_index::index` meets its contract.
use Rattle.std.proofs.Common.{◌≡◌, ◌∙◌, Err, length, sym}
use Rattle.network.specs.Indexing.{index_checked}
use Rattle.index_building.specs.Replies.{built-unfit, unfit-damaged}
use Rattle.planner_index.specs.Kept.{index-promised}
use Rattle.planner_index.proofs.index.Goals as goal

pub returns-then-is_damaged : goal.returns-then-is_damaged
returns-then-is_damaged c =
    let a = c.args in
    let damaged = sym c.is_damaged.ensures ∙ c.if-is_damaged.true in
    let made = built-unfit a.list.now a.buffer.now (unfit-damaged a.list.now damaged) in
    let reply : Err c.of.result ≡ index_checked a.list.now (length a.buffer.now) = rw c.of.ensures made.0 in
    record { reply = reply; leaves = made.1; promised = index-promised a.list.now a.buffer.now reply made.1 }

pub build-requires : goal.build-requires
build-requires c = sym c.is_damaged.ensures ∙ c.if-is_damaged.false

pub returns-else-is_damaged : goal.returns-else-is_damaged
returns-else-is_damaged c =
    let a = c.args in
    let made = c.build.ensures in
    record { reply = made.reply; leaves = made.leaves; promised = index-promised a.list.now a.buffer.now made.reply made.leaves }
