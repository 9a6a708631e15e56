use Rattle.std.proofs.Common.{◌≡◌, arith}
use Rattle.survey_decoding.specs.Columns.{ends-none, ends-turn}
use Rattle.survey_decoding.proofs.columns.decode_ends.Goals as goal

pub loop-i-init : goal.loop-i-init
loop-i-init c = ends-none c.args.records.layout c.args.records.bytes.now

pub loop-i-preserved : goal.loop-i-preserved
loop-i-preserved c =
    let l = c.loop-i in
    let turn = ends-turn c.args.records.layout c.args.records.bytes.now l.i c.link.result.at l.ends l.invariant (omega (arith, l.auto.ends)) c.link.ensures.1 in
    rw (c.ends-first.ensures.0, c.ends-first.ensures.1, c.link.ensures.0) turn

pub returns : goal.returns
returns c = let all : c.loop-i.i ≡ c.args.records.m = omega arith in rw all at c.loop-i.invariant
