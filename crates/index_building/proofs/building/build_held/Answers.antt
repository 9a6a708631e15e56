-- `index_building::building::build_held` meets its contract: the numbers by rising key are the index.
use Rattle.std.proofs.Common.{rules, arith}
use Rattle.planlist_fetching.specs.Found.{whole}
use Rattle.index_building.specs.Built.{index-built}
use Rattle.index_building.specs.Replies.{built-fits, built-short, read-fit, read-refused}
use Rattle.index_building.proofs.building.build_held.Goals as goal

pub read_u16-requires : goal.read_u16-requires
read_u16-requires g c = omega (arith, (whole c.args.list.now c.requires.0).long)

pub returns-in_err-read_keys-clause-reply : goal.returns-in_err-read_keys-clause-reply
returns-in_err-read_keys-clause-reply g c =
    let both = read-refused c.args.list.now c.requires.0 c.read_keys.ensures.marked c.args.index.now c.in_err-read_keys.was in
    let reply = both.0 in
    search rules

pub returns-in_err-read_keys-clause-leaves : goal.returns-in_err-read_keys-clause-leaves
returns-in_err-read_keys-clause-leaves g c =
    (read-refused c.args.list.now c.requires.0 c.read_keys.ensures.marked c.args.index.now c.in_err-read_keys.was).1

pub returns-then-index-keys-clause-reply : goal.returns-then-index-keys-clause-reply
returns-then-index-keys-clause-reply g c =
    let list = c.args.list.now in
    let fit = read-fit list c.requires.0 c.read_keys.ensures.marked c.in_ok-read_keys.was in
    rw c.of.ensures (built-short list c.args.index.now fit (omega (arith, c.read_keys.auto, c.read_u16.ensures, c.requires, c.if-index-keys.true))).0

pub returns-then-index-keys-clause-leaves : goal.returns-then-index-keys-clause-leaves
returns-then-index-keys-clause-leaves g c =
    let list = c.args.list.now in
    let fit = read-fit list c.requires.0 c.read_keys.ensures.marked c.in_ok-read_keys.was in
    (built-short list c.args.index.now fit (omega (arith, c.read_keys.auto, c.read_u16.ensures, c.requires, c.if-index-keys.true))).1

pub returns-clause-reply : goal.returns-clause-reply
returns-clause-reply g c =
    let list = c.args.list.now in
    let fit = read-fit list c.requires.0 c.read_keys.ensures.marked c.in_ok-read_keys.was in
    let keys = c.read_keys.ensures.filled c.in_ok-read_keys.was in
    (built-fits list c.args.index.now fit (omega (arith, c.read_keys.auto, c.read_u16.ensures, c.requires, c.if-index-keys.false))
    (index-built list c.type_inv.list c.args.index.now keys c.write_entries.ensures)).0

pub returns-clause-leaves : goal.returns-clause-leaves
returns-clause-leaves g c =
    let list = c.args.list.now in
    let fit = read-fit list c.requires.0 c.read_keys.ensures.marked c.in_ok-read_keys.was in
    let keys = c.read_keys.ensures.filled c.in_ok-read_keys.was in
    (built-fits list c.args.index.now fit (omega (arith, c.read_keys.auto, c.read_u16.ensures, c.requires, c.if-index-keys.false))
    (index-built list c.type_inv.list c.args.index.now keys c.write_entries.ensures)).1
