-- `marking::grid::put_sides` meets its contract.
use native.Mathlib.Omega.{arith}
use Prim.Native.Nat.{ℕ, ◌*◌}
use mathlib.Core.Path.{◌≡◌, sym, ap₂, ◌∙◌}
use lib.ListN.{drop, get_or, length, length-set, set}
use Rattle.marking.specs.Paint.{side}
use Rattle.marking.specs.Digits.{few-products, front-all, front-turn, sides-none, sides-turn, total, total-none, total-turn}
use Rattle.marking.proofs.grid.put_sides.Goals as goal
use Rattle.marking.proofs.grid.put_sides.Goals.{In-Some}

pub loop-i-init : goal.loop-i-init
loop-i-init c =
    let cs = c.args.counts.now in
    rw (c.into_iter-i-iterator.ensures.into_iter_gives, c.rev-i-items.ensures.source, c.enumerate.ensures.source, c.iter.ensures.rest) (
      c.requires.1,
      c.enumerate.ensures.count,
      front-all cs,
      total-none cs (length cs) (omega arith),
      sides-none c.args.sides.now cs (length cs) (omega (arith, c.requires.1)) (omega arith),
    )

-- the positions of one ceiling more
more : (c : In-Some) → let front = c.next.new.self.iter.iter.rest.now in
    (c.in-Some.i ≡ length front) × (get_or c.args.counts.now (length front) 0 ≡ c.in-Some.field-0-1.now)
    × (c.loop-i.total * c.in-Some.field-0-1.now ≡ total (drop (length front) c.args.counts.now))
more c =
    let l = c.loop-i in
    let cs = c.args.counts.now in
    let front = c.next.new.self.iter.iter.rest.now in
    let rest = l.i-iterator.iter.iter.rest.now in
    let steps = c.in-Some.ensures.steps in
    let turn = front-turn cs rest front c.in-Some.field-0-1.now l.invariant.2 steps.1.0 in (
      omega (arith, steps.1.1, l.invariant.1),
      turn.2,
      ap₂ (λ (a b : ℕ). a * b) l.invariant.3 (sym turn.2) ∙ total-turn cs (length front) (length rest) turn.0 turn.3,
    )

pub overflow_mul-total : goal.overflow_mul-total
overflow_mul-total c = omega (arith, (more c).2, few-products c.requires.0 (length c.next.new.self.iter.iter.rest.now))

pub loop-i-preserved : goal.loop-i-preserved
loop-i-preserved c =
    let l = c.loop-i in
    let cs = c.args.counts.now in
    let front = c.next.new.self.iter.iter.rest.now in
    let rest = l.i-iterator.iter.iter.rest.now in
    let steps = c.in-Some.ensures.steps in
    let turn = front-turn cs rest front c.in-Some.field-0-1.now l.invariant.2 steps.1.0 in
    let m = more c in (
      simp length-set l.invariant.0,
      steps.0 ∙ l.invariant.1,
      turn.1,
      m.2,
      ap₂ (λ (k n : ℕ). drop (length front) (set l.sides k (side l.total n))) m.0 (sym m.1)
          ∙ sides-turn cs (length front) (length rest) turn.0 turn.3 l.sides l.total l.invariant.0 l.invariant.3 l.invariant.4,
    )

pub returns : goal.returns
returns c =
    let l = c.loop-i in
    let none : length l.i-iterator.iter.iter.rest.now ≡ 0 = c.in-None.ensures.steps.1.0 in
    (rw none at l.invariant.3, rw none at l.invariant.4)
