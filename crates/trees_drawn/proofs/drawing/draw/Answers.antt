-- By what the stations and the forest ensure.
use mathlib.Core.Path.{◌≡◌, sym, ◌∙◌}
use Rattle.std.specs.Prelude.{◌&&◌, not, eqb, leb, ltb}
use Rattle.forest.specs.Groups.{leaders-joined, leaders-test}
use Rattle.trees_drawn.specs.Drawing.{drawing-broken, drawing-kept, keeps, with_link}
use Rattle.trees_drawn.proofs.drawing.draw.Goals as goal
use Rattle.trees_drawn.proofs.drawing.draw.Goals.{After-find-old}

-- what is tested is whether the link keeps to the rules
tested : (c : After-find-old)
    → ((leb c.args.drawn.low c.args.link && ltb c.args.link c.args.m) && c.joins_working-usable.result) && not (eqb c.find-new.result c.find-old.result)
    ≡ keeps c.args.rest c.args.ends.now c.args.m c.args.drawn c.args.link
tested c =
    let f = c.args.drawn.groups in
    let a = c.station_at-a in
    let b = c.station_at-b in
    rw (leaders-test f a.result b.result c.find-new.ensures c.find-old.ensures, c.joins_working-usable.ensures, b.ensures, a.ensures)

pub returns-then-keeps : goal.returns-then-keeps
unfolding with_link
returns-then-keeps c =
    let a = c.station_at-a in
    let b = c.station_at-b in
    let joins = c.join.ensures ∙ leaders-joined c.args.drawn.groups a.result b.result c.find-new.ensures c.find-old.ensures c.requires.1 in
    drawing-kept _ _ _ _ _ (sym (tested ((goal.at.returns-then-keeps c).After-find-old)) ∙ c.if-keeps.true) (rw (joins, b.ensures, a.ensures))

pub returns-else-keeps : goal.returns-else-keeps
returns-else-keeps c = drawing-broken _ _ _ _ _ (sym (tested ((goal.at.returns-else-keeps c).After-find-old)) ∙ c.if-keeps.false)
