-- `index_lookup::finding::find_held` meets its contract.
use Rattle.std.proofs.Common.{rules, ◌∙◌, arith}
use Rattle.std.proofs.lemmas.Int.{to_z-of_z}
use mir.Syntax.{w16}
use Rattle.planlist_fetching.specs.Found.{whole}
use Rattle.index_building.specs.Replies.{read-fit}
use Rattle.index_lookup.specs.Finding.{found-list, looked-refused, looked-short}
use Rattle.index_lookup.proofs.finding.find_held.Goals as goal

pub read_u16-requires : goal.read_u16-requires
read_u16-requires g c = omega (arith, (whole c.args.list.now c.requires.0).long)

pub returns-in_err-read_keys : goal.returns-in_err-read_keys
returns-in_err-read_keys g c =
    let refused = looked-refused c.args.list.now c.args.index.now c.args.y c.requires.0 c.read_keys.ensures.marked c.in_err-read_keys.was in
    search rules

pub returns-then-index-keys : goal.returns-then-index-keys
returns-then-index-keys g c =
    let list = c.args.list.now in
    let fit = read-fit list c.requires.0 c.read_keys.ensures.marked c.in_ok-read_keys.was in
    rw c.of.ensures (looked-short list c.args.index.now c.args.y fit
    (omega (arith, c.read_keys.auto, c.read_u16.ensures, c.requires, c.if-index-keys.true)))

pub find_in-requires : goal.find_in-requires
find_in-requires g c =
    (omega (arith, c.read_keys.auto, c.read_u16.ensures, (whole c.args.list.now c.requires.0).few), omega (arith, c.if-index-keys.false))

pub returns : goal.returns
returns g c =
    let list = c.args.list.now in
    let fit = read-fit list c.requires.0 c.read_keys.ensures.marked c.in_ok-read_keys.was in
    let keys = c.read_keys.ensures.filled c.in_ok-read_keys.was in
    let found = rw (to_z-of_z w16 c.args.y c.ranges.y) at c.find_in.ensures in
    found
    ∙ found-list list c.type_inv.list keys c.args.index.now c.args.y c.ranges.y fit
    (omega (arith, c.read_keys.auto, c.read_u16.ensures, c.requires, c.if-index-keys.false))
