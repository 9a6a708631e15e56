-- The trees from number r on, less those still to be passed, are ahead.
use Prim.Native.Nat.{ℕ, ◌-◌, ◌<◌}
use mathlib.Core.Bool.{true}
use mathlib.Core.List.{List}
use mathlib.Core.Path.{◌≡◌, refl, sym, ap, ◌∙◌, subst}
use native.Mathlib.Omega.{arith}
use lib.ListN.{length}
use Rattle.buffers.specs.Overwrite.{overwrite}
use Rattle.network.specs.EveryTree.{tree_at, tree_count}
use Rattle.network.specs.Network.{Network}
use Rattle.network.specs.Shaped.{net_of}
use Rattle.network.specs.Yard.{is_tree}
use Rattle.trees_costs.specs.TreeCosts.{TreeLinks, costs-net, priceable, tree-links}
use Rattle.trees_enumeration.specs.Enumerated.{ahead_in-none, ahead_in-some}
use Rattle.trees_enumeration.specs.Growing.{growable}
use Rattle.trees_enumeration.specs.Numbering.{at_last, handed, not_there, passed, passes, past-last}
use Rattle.trees_enumeration.proofs.numbering.hand_out.Goals as goal
use Rattle.trees_enumeration.proofs.numbering.hand_out.Goals.{After-links-links}

-- the network, and the tree of number r that was found
abbrev network : After-links-links → Network
network a = net_of a.args.net.shape a.args.net.ends.now a.args.net.sums.now a.args.net.costs.now

found : (a : After-links-links) → (a.args.r < tree_count (network a)) × (a.links-links.result.now ≡ tree_at (network a) a.args.r)
found a =
    let v = a.loop-trees in
    let h = at_last (network a) a.args.r v.left a.if-left-eq0.true (v.invariant.2 ∙ ahead_in-some v.trees a.loop-trees-test.true) in
    (h.0, a.links-links.ensures ∙ sym h.1)

known : (a : After-links-links) → TreeLinks (network a) a.links-links.result.now
known a =
    let h = found a in
    tree-links _ _ (subst (λ (ts : List ℕ). is_tree (network a) ts ≡ true) (sym h.1) (passes (network a) a.args.r h.0))

pub of-trees-requires : goal.of-trees-requires
of-trees-requires c = growable c.args.net.plannable

pub copy_in-requires : goal.copy_in-requires
copy_in-requires c =
    let links = known ((goal.at.copy_in-requires c).After-links-links) in
    omega (arith, links.size, c.args.net.plannable.tree)

pub tree_costs-requires : goal.tree_costs-requires
tree_costs-requires c =
    let can = c.args.net.plannable in
    (can.fine.sum-count, priceable _ _ _ _ can _ (known ((goal.at.tree_costs-requires c).After-links-links)))

pub returns-then-left-eq0-clause-reply : goal.returns-then-left-eq0-clause-reply
returns-then-left-eq0-clause-reply c =
    let a = (goal.at.returns-then-left-eq0-clause-reply c).After-links-links in
    let h = found a in
    (handed (network a) c.args.r c.args.tree.now _ _ _ h.0 h.1 (c.tree_costs.ensures ∙ costs-net _ _ _ _ c.args.net.plannable _)
    (c.copy_in.ensures ∙ ap (λ (t : List ℕ). overwrite t 0 c.links-links.result.now) c.loop-trees.invariant.0)).0

pub returns-then-left-eq0-clause-leaves : goal.returns-then-left-eq0-clause-leaves
returns-then-left-eq0-clause-leaves c =
    let a = (goal.at.returns-then-left-eq0-clause-leaves c).After-links-links in
    let h = found a in
    (handed (network a) c.args.r c.args.tree.now _ _ _ h.0 h.1 (c.tree_costs.ensures ∙ costs-net _ _ _ _ c.args.net.plannable _)
    (c.copy_in.ensures ∙ ap (λ (t : List ℕ). overwrite t 0 c.links-links.result.now) c.loop-trees.invariant.0)).1

pub loop-trees-init : goal.loop-trees-init
loop-trees-init c =
    let yard = c.of-trees.ensures in
    let none : c.args.r - c.args.r ≡ 0 = omega arith in
    (refl, omega arith, rw none (rw (yard.0, yard.1) at c.first.ensures.trees))

pub loop-trees-smaller : goal.loop-trees-smaller
loop-trees-smaller c = omega (arith, ap length (ahead_in-some c.loop-trees.trees c.loop-trees-test.true), ap length c.advance.ensures.trees)

pub loop-trees-preserved : goal.loop-trees-preserved
loop-trees-preserved c =
    let net = net_of c.args.net.shape c.args.net.ends.now c.args.net.sums.now c.args.net.costs.now in
    let v = c.loop-trees in (
      v.invariant.0,
      omega (arith, v.invariant.1),
      passed net c.args.r v.left (omega (arith, c.if-left-eq0.false)) v.invariant.1 (v.invariant.2 ∙ ahead_in-some v.trees c.loop-trees-test.true)
          ∙ c.advance.ensures.trees,
    )

pub returns-clause-reply : goal.returns-clause-reply
returns-clause-reply c =
    let net = net_of c.args.net.shape c.args.net.ends.now c.args.net.sums.now c.args.net.costs.now in
    let v = c.loop-trees in
    let none = v.invariant.2 ∙ ahead_in-none c.loop-trees.trees c.loop-trees-test.false in
    rw c.of.ensures (not_there net c.args.r c.args.tree.now (past-last net c.args.r v.left none)).0

pub returns-clause-leaves : goal.returns-clause-leaves
returns-clause-leaves c =
    let net = net_of c.args.net.shape c.args.net.ends.now c.args.net.sums.now c.args.net.costs.now in
    let v = c.loop-trees in
    let none = v.invariant.2 ∙ ahead_in-none c.loop-trees.trees c.loop-trees-test.false in
    v.invariant.0 ∙ (not_there net c.args.r c.args.tree.now (past-last net c.args.r v.left none)).1
