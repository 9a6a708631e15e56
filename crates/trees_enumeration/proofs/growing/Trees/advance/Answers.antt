-- From a tree on, with its last link left instead.
use mathlib.Core.Path.{refl, sym, ◌∙◌}
use native.Mathlib.Omega.{arith}
use borrow.Author.Rules.{rules}
use Rattle.trees_enumeration.specs.Growing.{Roomy, from-none, later-coming, later-none, roomy, whole-standing}
use Rattle.trees_enumeration.specs.Taken.{last-none, last-some}
use Rattle.trees_enumeration.proofs.growing.Trees.advance.Goals as goal
use Rattle.trees_enumeration.proofs.growing.Trees.advance.Goals.{in-None, in-Some}

pub grow-self-requires : goal.grow-self-requires
grow-self-requires c =
    let trees = c.args.self.now in
    let whole = trees.whole c.requires in
    let room : Roomy trees.shape trees.taken.links trees.taken.history = roomy trees.growable (search rules) (search rules) in
    let left = c.in-Some.ensures in
    let last = last-some _ _ left.link in
    (trees.growable, rw (left.others.0, left.others.1, left.others.2, last.1) (whole-standing _ _ trees.growable room last.0 whole))

pub returns-clause-trees : goal.returns-clause-trees
returns-clause-trees c =
    let trees = c.args.self.now in
    let all = (trees.whole c.requires).all in
    elim c.match-last.branch [
      | in-Some w ↦
          let left = w.in-Some.ensures in
          let last = last-some _ _ left.link in
          rw (w.self-is, w.self2-is) (
          sym (later-coming _ _ _ (omega (arith, last.0, all))) ∙ rw (left.others.0, left.others.2, last.1, all) at w.grow-self.ensures.trees)
      | in-None w ↦
          let none = last-none _ _ w.in-None.ensures.link in
          rw (w.self-is, w.self2-is) (later-none _ _ _ (sym all ∙ none) ∙ sym (from-none _ _ _ refl))
    ]
