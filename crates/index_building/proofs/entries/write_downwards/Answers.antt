use Rattle.std.proofs.Common.{refl, ◌∙◌, arith}
use Rattle.index_building.specs.Entries.{downwards, downwards-at, downwards-length, entries-start, entries-turn, entries-written}
use Rattle.index_building.proofs.entries.write_downwards.Goals as goal

pub loop-r-init : goal.loop-r-init
loop-r-init c = (entries-start (downwards c.args.count) c.args.index.now, refl)

pub loop-r-preserved : goal.loop-r-preserved
loop-r-preserved c =
    let l = c.loop-r in
    let n = c.args.count in
    let size = downwards-length n in (
      entries-turn (downwards n) c.args.index.now l.index l.r _ l.invariant.0 (omega arith) (downwards-at n l.r (omega arith)) c.write_u16.ensures,
      c.write_u16.auto.out ∙ l.invariant.1,
    )

pub returns : goal.returns
returns c =
    let l = c.loop-r in
    let size = downwards-length c.args.count in
    entries-written (downwards c.args.count) c.args.index.now l.index l.r l.invariant.0 (omega arith)
