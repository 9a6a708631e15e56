-- The last link is left and taken once more, with the groups after it: the same links, and the same tree.
use Prim.Native.Nat.{ℕ, ◌+◌, ◌*◌, ◌<◌}
use mathlib.Core.Bool.{true}
use mathlib.Core.List.{List, ◌∷◌}
use mathlib.Core.Path.{◌≡◌, refl, sym, ap, ◌∙◌}
use native.Mathlib.Omega.{arith}
use borrow.Author.Rules.{rules}
use lib.ListN.{length, take}
use Rattle.std.proofs.Common.{Some}
use Rattle.forest.specs.Groups.{leaders-lead}
use Rattle.trees_enumeration.specs.Retaken.{last-known, led-before, same-links, whole-none, whole-retaken}
use Rattle.trees_enumeration.specs.Enumerated.{ahead-none, ahead-some, ahead_in-none, ahead_in-some}
use Rattle.trees_enumeration.specs.Growing.{Roomy, later, roomy}
use Rattle.trees_enumeration.specs.Taken.{last-none, last-some, last_of}
use Rattle.trees_enumeration.specs.declared.growing.Trees.{Trees}
use Rattle.trees_enumeration.proofs.growing.Tree.of.Goals as goal
use Rattle.trees_enumeration.proofs.growing.Tree.of.Goals.{in-Some, in_default}

-- both ends of the last link are there
known : (trees : Trees) → Roomy trees.shape trees.taken.links trees.taken.history → trees.found ≡ true → {e : ℕ} → Some e ≡ last_of trees.taken
    → 2 * e + 1 < length trees.ends.now
known trees room found is =
    let last = last-some _ _ is in
    let inside = last-known _ _ trees.growable room (trees.whole found) last.0 last.1 in
    omega (arith, inside, trees.growable.size)

pub returns-then-not-trees-clause-trees : goal.returns-then-not-trees-clause-trees
returns-then-not-trees-clause-trees c = ahead_in-none c.args.trees c.if-not-trees.true ∙ ahead-none refl

pub bounds-ends-link : goal.bounds-ends-link
bounds-ends-link c =
    let trees = c.args.trees in
    let room : Roomy trees.shape trees.taken.links trees.taken.history = roomy trees.growable (search rules) (search rules) in
    omega (arith, known trees room c.if-not-trees.false c.in-Some.ensures.link)

pub bounds-ends-link-in-Some : goal.bounds-ends-link-in-Some
bounds-ends-link-in-Some c =
    let trees = c.args.trees in
    let room : Roomy trees.shape trees.taken.links trees.taken.history = roomy trees.growable (search rules) (search rules) in
    known trees room c.if-not-trees.false c.in-Some.ensures.link

pub join-requires : goal.join-requires
join-requires c =
    let trees = c.args.trees in
    let room : Roomy trees.shape trees.taken.links trees.taken.history = roomy trees.growable (search rules) (search rules) in
    let left = c.in-Some.ensures in
    let last = last-some _ _ left.link in
    let groups = rw (left.others.1, left.others.2) at c.groups-groups.ensures in
    let lead = leaders-lead c.groups-groups.result _ _ c.find-new.ensures c.find-old.ensures
    (led-before _ _ trees.growable room (trees.whole c.if-not-trees.false) last.0 last.1 groups) in
    -- each half of the goal is one of these two, whichever leaders are joined
    let new = lead.0 in
    let old = lead.1 in
    (cc, cc)

pub invariant_of-result : goal.invariant_of-result
invariant_of-result c =
    let trees = c.args.trees in
    let tree = trees.whole c.if-not-trees.false in
    let room : Roomy trees.shape trees.taken.links trees.taken.history = roomy trees.growable (search rules) (search rules) in
    record {
      growable = trees.growable;
      whole = elim c.match-leave.branch [
        | in-Some w ↦
            let left = w.in-Some.ensures in
            let last = last-some _ _ left.link in
            let groups = rw (left.others.1, left.others.2) at w.groups-groups.ensures in
            let put = w.take.ensures in
            rw (w.taken-is, put.0, put.1, put.2, left.others.0, left.others.1, left.others.2)
            (whole-retaken _ _ trees.growable room tree last.0 last.1 groups w.find-new.ensures w.find-old.ensures w.join.ensures)
        | in_default w ↦
            let left = w.in_default.ensures in
            let none = last-none _ _ left.link in
            rw (w.taken-is, left.others.0, left.others.1, left.others.2) (whole-none tree none)
      ];
    }

pub returns-clause-trees : goal.returns-clause-trees
returns-clause-trees c =
    let trees = c.args.trees in
    let found = c.if-not-trees.false in
    let room : Roomy trees.shape trees.taken.links trees.taken.history = roomy trees.growable (search rules) (search rules) in
    let same : c.match-leave.taken.links ≡ trees.taken.links = elim c.match-leave.branch [
      | in-Some w ↦
          let left = w.in-Some.ensures in
          let last = last-some _ _ left.link in
          rw (w.taken-is, w.take.ensures.0, left.others.0, left.others.2) (same-links _ _ trees.growable room (trees.whole found) last.0 last.1)
      | in_default w ↦ rw w.taken-is w.in_default.ensures.others.0
    ] in
    ahead_in-some trees found
    ∙ ap (λ (links : List ℕ). take trees.shape.t links ∷ later trees.shape trees.ends.now links) (sym same)
    ∙ sym (ahead-some _ refl)
