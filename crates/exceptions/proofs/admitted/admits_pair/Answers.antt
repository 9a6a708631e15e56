use native.Mathlib.Omega.{arith}
use Rattle.exceptions.specs.Admit.{pair_end, pair-many, pair-more}
use Rattle.exceptions.proofs.admitted.admits_pair.Goals as goal

pub returns-then-rank-a : goal.returns-then-rank-a
returns-then-rank-a c =
    let l = c.loop-rank in
    pair-many _ l.rank-index l.a l.b _ (omega arith) (omega (arith, c.if-rank-a.true)) l.invariant.2

pub loop-rank-preserved : goal.loop-rank-preserved
loop-rank-preserved c =
    let l = c.loop-rank in
    let rest = pair-more _ l.rank-index l.a l.b _ (omega arith) (omega (arith, c.if-rank-a.false)) l.invariant.2 in
    (omega (arith, l.invariant.0), omega (arith, l.invariant.1), rest)

pub returns : goal.returns
returns c = let l = c.loop-rank in pair_end _ l.rank-index l.a l.b _ (omega arith) l.invariant.2
