-- `walk_visit::settling::settle` meets its contract: the box with the sides of the answer is marked.
use mathlib.Core.List.{List}
use mathlib.Core.Path.{ap, ◌∙◌}
use Rattle.marking.specs.Paint.{paint}
use Rattle.marking.specs.declared.mark.Side.{Side}
use Rattle.walk_visit.specs.Answered.{settled_by}
use Rattle.walk_visit.proofs.settling.settle.Goals as goal

pub returns : goal.returns
unfolding settled_by
returns c =
    let a = c.args in
    c.mark_box.ensures ∙ ap (λ (rs : List Side). paint rs a.n a.marks.now) c.sides_by-sides.ensures
