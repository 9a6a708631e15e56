-- `index_lookup::cheapest::next_best` meets its contract, by whether plan r meets the bound, and then by the sums.
use Rattle.std.proofs.Common.{rules, ◌∙◌, arith}
use Rattle.index_lookup.specs.Search.{next-better, next-first, next-keeps, next-misses, plan_in}
use Rattle.index_lookup.proofs.cheapest.next_best.Goals as goal

pub returns-then-sum_in : goal.returns-then-sum_in
unfolding plan_in
returns-then-sum_in c =
    let a = c.args in (
      rw c.in-Some.is (next-keeps a.keys.now a.bound c.in-Some.before a.r (omega (arith, c.if-y1_in-bound.true, c.y1_in.ensures))
          (omega (arith, c.if-sum_in.true, c.sum_in.ensures, c.sum_in-in-Some.ensures))),
      λ x q. c.requires.0 x (c.in-Some.is ∙ q),
    )

pub returns-else-sum_in : goal.returns-else-sum_in
unfolding plan_in
returns-else-sum_in c =
    let a = c.args in (
      rw c.in-Some.is (next-better a.keys.now a.bound c.in-Some.before a.r (omega (arith, c.if-y1_in-bound.true, c.y1_in.ensures))
          (omega (arith, c.if-sum_in.false, c.sum_in.ensures, c.sum_in-in-Some.ensures))),
      search rules,
    )

pub returns-in_default : goal.returns-in_default
unfolding plan_in
returns-in_default c =
    let a = c.args in (
      rw c.in_default.is (next-first a.keys.now a.bound a.r (omega (arith, c.if-y1_in-bound.true, c.y1_in.ensures))),
      search rules,
    )

pub returns : goal.returns
returns c =
    let a = c.args in
    (next-misses a.keys.now a.bound (plan_in a.best) a.r (omega (arith, c.if-y1_in-bound.false, c.y1_in.ensures)), c.requires.0)
