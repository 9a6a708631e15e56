-- All links in order, and the usable ones of them; where no station rests, these are all.
use Prim.Native.Nat.{◌≤◌}
use mathlib.Core.Path.{◌≡◌, sym, ◌∙◌}
use native.Mathlib.Omega.{arith}
use borrow.Author.Rules.{rules}
use lib.ListN.{length}
use lib.Seq.{length-take-le}
use Rattle.network.specs.Capacities.{links_held}
use Rattle.network.specs.Yard.{usable_at}
use Rattle.kruskal_order.specs.Usable.{none_rest, of-order, order-numbers, usable_of}
use Rattle.kruskal_order.proofs.usable.order_usable.Goals as goal
use Rattle.kruskal_order.proofs.usable.order_usable.Goals.{After-order_links-order}

-- all links stand at the front of the array
front : (c : After-order_links-order) → length c.args.sums.now ≤ length c.order_links-order.result
front c = let size : length c.order_links-order.result ≡ links_held = search rules in omega (arith, c.requires.1)

pub returns-then-rest-eq0 : goal.returns-then-rest-eq0
returns-then-rest-eq0 c = record { links = c.order_links-order.ensures ∙ none_rest _ _ _ c.if-rest-eq0.true; few = front ((goal.at.returns-then-rest-eq0 c).After-order_links-order) }

pub slice_bounds-put_passing-end : goal.slice_bounds-put_passing-end
slice_bounds-put_passing-end c = sym (length-take-le _ _ (front ((goal.at.slice_bounds-put_passing-end c).After-order_links-order)))

pub put_passing-count-requires : goal.put_passing-count-requires
put_passing-count-requires c =
    let p = c.requires in
    let few = length-take-le (length c.args.sums.now) c.order_links-order.result (front ((goal.at.put_passing-count-requires c).After-order_links-order)) in
    (λ e m _ _ _ _ _ _ _ _. (order-numbers _ p.1 c.order_links-order.ensures e m, p.0), omega (arith, few, p.1))

pub returns : goal.returns
unfolding usable_of
returns c =
    let held = c.put_passing-count.ensures (usable_at c.args.rest c.args.ends.now) (λ e r m post. search rules) in
    record { links = held.links ∙ of-order c.args.rest c.args.ends.now c.args.sums.now c.order_links-order.ensures; few = held.few }

pub invariant_of-result-2 : goal.invariant_of-result-2
unfolding usable_of
invariant_of-result-2 c =
    let held = c.put_passing-count.ensures (usable_at c.args.rest c.args.ends.now) (λ e r m post. search rules) in
    record { held = held.few }
