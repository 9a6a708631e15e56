-- The sets of one and of two of the exceptions that are kept, as far as the ranks admit any.
use Rattle.std.proofs.Common.{◌<◌, ◌≡◌, sym, ◌∙◌, arith}
use Rattle.kmax.specs.Ceilings.{slack_of}
use Rattle.kruskal.specs.Basing.{joinable-near}
use Rattle.exceptions.specs.Keep.{no-exceptions}
use Rattle.search.specs.Loops.{none-searched, ones-all}
use Rattle.solver.specs.Assembled.{kept-below, kept-known, kept-tryable}
use Rattle.solver.proofs.by_patterns.best_from.Goals as goal

pub returns-then-s-eq0 : goal.returns-then-s-eq0
returns-then-s-eq0 c =
    let p = c.requires in
    let none = no-exceptions _ _ _ p.0 (sym p.3 ∙ c.if-s-eq0.true) _ (kept-below c.args.s.now.basis.ends.now p.0 p.1) (kept-known _ p.0 p.1) in
    (none-searched _ _ _ _ _ _ _ _ none, p.5)

pub put_exceptions-n-requires : goal.put_exceptions-n-requires
put_exceptions-n-requires c =
    let p = c.requires in (
      rw p.0.size c.args.s.now.basis.ready.columns.ends-size,
      joinable-near p.2,
      rw p.0.size p.0,
      record { known = λ e m. omega (arith, (p.1.walkable.usable e m).below, p.0.size); room = omega (arith, p.1.walkable.few) },
    )

pub consider_ones-requires : goal.consider_ones-requires
consider_ones-requires c =
    let p = c.requires in
    (rw c.put_exceptions-n.ensures.links (kept-tryable _ p.0 p.1 p.2), c.if-s-eq1.true, p.5)

pub returns-then-s-eq1 : goal.returns-then-s-eq1
returns-then-s-eq1 c =
    let p = c.requires in
    let few : slack_of c.args.s.now.ks.now < 2 = omega (arith, p.3, c.if-s-eq1.true) in
    let ones = rw c.put_exceptions-n.ensures.links at c.consider_ones.ensures.0 in
    (ones-all _ _ _ _ _ _ p.0 few _ _ _ (kept-known _ p.0 p.1) (kept-below _ p.0 p.1) ones, c.consider_ones.ensures.1)

pub consider_sets-requires : goal.consider_sets-requires
consider_sets-requires c =
    let p = c.requires in
    let two : c.args.s.now.largest ≡ 2 = omega (arith, c.if-s-eq0.false, p.4, c.if-s-eq1.false) in
    let odd = c.put_exceptions-n.ensures in
    (p.0, rw odd.links (kept-tryable _ p.0 p.1 p.2), rw odd.links (kept-known _ p.0 p.1), two, p.5)

pub returns : goal.returns
returns c =
    (rw c.put_exceptions-n.ensures.links at c.consider_sets.ensures.0, c.consider_sets.ensures.1)
