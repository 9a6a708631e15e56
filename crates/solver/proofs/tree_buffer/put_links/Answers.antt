use Rattle.std.proofs.Common.{zero-add, ◌+◌, ◌≤◌, ◌<◌, ◌≡◌, refl, false, arith, drop, get_or, length, length-set, set}
use mir.Val.{bool_byte}
use Rattle.search_trials.specs.Flags.{rising}
use Rattle.solver.specs.Buffer.{left, none-left, put-end, put-start, put-turn, put_at}
use Rattle.solver.proofs.tree_buffer.put_links.Goals as goal
use Rattle.solver.proofs.tree_buffer.put_links.Goals.{Else-n-t}

-- links are left
some : (c : Else-n-t) → c.loop-link.n < c.args.t
some c = omega (arith, c.if-n-t.false)

-- what a turn leaves
turned : (c : Else-n-t)
    → let v = c.loop-link in
    let i = c.args in
    let n = v.n + bool_byte (get_or i.taken.now v.link false) in
    (left i.taken.now (set v.tree v.n v.link) n (v.link + 1) ≡ put_at 0 (rising 0 i.taken.now) i.tree.now)
    × (n + length (rising (v.link + 1) (drop (v.link + 1) i.taken.now)) ≡ i.t)
    × (n ≤ v.n + 1)
turned c =
    let v = c.loop-link in
    put-turn c.args.taken.now _ _ v.n v.link _ (some c) refl v.invariant.1 v.invariant.2

pub loop-link-init : goal.loop-link-init
loop-link-init c = (refl, rw zero-add c.requires.0, put-start _ _)

pub returns-then-n-t : goal.returns-then-n-t
returns-then-n-t c = let v = c.loop-link in put-end _ _ _ v.n v.link _ (omega (arith, c.if-n-t.true)) v.invariant.1 v.invariant.2

pub bounds-tree-n : goal.bounds-tree-n
bounds-tree-n c = omega (arith, some ((goal.at.bounds-tree-n c).Else-n-t))

pub overflow_add-n : goal.overflow_add-n
overflow_add-n c = omega (arith, (turned ((goal.at.overflow_add-n c).Else-n-t)).1)

pub loop-link-preserved : goal.loop-link-preserved
loop-link-preserved c =
    let w = turned ((goal.at.loop-link-preserved c).Else-n-t) in
    (simp length-set c.loop-link.invariant.0, w.1, w.0)

pub returns : goal.returns
returns c =
    let v = c.loop-link in
    let none = none-left c.args.taken.now v.link (omega arith) in
    put-end _ _ _ v.n v.link _ (omega (arith, none)) v.invariant.1 v.invariant.2
