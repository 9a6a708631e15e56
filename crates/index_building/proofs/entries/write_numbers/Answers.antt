use Rattle.std.proofs.Common.{refl, ◌∙◌, arith}
use Rattle.index_building.specs.Entries.{entries-start, entries-turn, entries-written}
use Rattle.index_building.proofs.entries.write_numbers.Goals as goal

pub loop-r-init : goal.loop-r-init
loop-r-init c = (entries-start c.args.numbers.now c.args.index.now, refl)

pub loop-r-preserved : goal.loop-r-preserved
loop-r-preserved c =
    let l = c.loop-r in (
      entries-turn c.args.numbers.now c.args.index.now l.index l.r _ l.invariant.0 (omega arith) refl c.write_u16.ensures,
      c.write_u16.auto.out ∙ l.invariant.1,
    )

pub returns : goal.returns
returns c =
    let l = c.loop-r in
    entries-written c.args.numbers.now c.args.index.now l.index l.r l.invariant.0 (omega arith)
