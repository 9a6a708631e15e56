-- Each call is what it ensures; the patterns are those of the network.
use Prim.Native.Nat.{ℕ, ◌*◌, ◌≤◌}
use mathlib.Core.List.{◌++◌}
use mathlib.Core.Path.{◌≡◌, sym, ap, ◌∙◌}
use native.Mathlib.Omega.{arith}
use lib.ListN.{drop, length, length-append, replicate, take}
use lib.Seq.{length-take-le, take_at}
use Rattle.network.specs.Capacities.{links_held}
use Rattle.network.specs.Shaped.{net_of}
use Rattle.exceptions.specs.Select.{order-in-order}
use Rattle.exceptions.specs.OfNetwork.{net-patterned, net_patterns}
use Rattle.exceptions.specs.Patterns.{patterns_of}
use Rattle.solver.specs.OfNetwork.{assembled-network, order-joinable, zeros-front}
use Rattle.solver.proofs.of_network.best_in_order.Goals as goal
use Rattle.solver.proofs.of_network.best_in_order.Goals.{Start, After-put_patterns}

-- as many patterns as links
size : (c : Start) → length (take c.args.net.shape.m (replicate {A = ℕ} links_held 0)) ≡ c.args.net.shape.m
size c = length-take-le c.args.net.shape.m (replicate {A = ℕ} links_held 0) c.args.net.plannable.fine.few-links

-- they are those of the network
made : (c : After-put_patterns) → length (take c.args.net.shape.m (replicate {A = ℕ} links_held 0)) ≡ c.args.net.shape.m
    → let i = c.args in
    c.put_patterns.new.patterns ≡ net_patterns (net_of i.net.shape i.net.ends.now i.net.sums.now i.net.costs.now) i.bounds.now
made c size =
    let i = c.args in
    c.put_patterns.ensures ∙ ap (λ (m : ℕ). patterns_of m i.net.costs.now i.bounds.now) size

-- and stand at the front of the array
front : (c : After-put_patterns) → length (take c.args.net.shape.m (replicate {A = ℕ} links_held 0)) ≡ c.args.net.shape.m
    → let m = c.args.net.shape.m in
    let all = c.put_patterns.new.patterns ++ drop m (replicate {A = ℕ} links_held 0) in
    (take m all ≡ c.put_patterns.new.patterns) × (m ≤ length all)
front c size =
    let m = c.args.net.shape.m in
    let l = c.put_patterns.new.patterns in
    let n : length l ≡ m = c.put_patterns.auto.patterns ∙ size in
    (take_at l (drop m (replicate {A = ℕ} links_held 0)) m n, omega (arith, length-append l (drop m (replicate {A = ℕ} links_held 0))))

pub put_patterns-requires : goal.put_patterns-requires
put_patterns-requires c =
    let p = c.requires in
    let fine = c.args.net.plannable.fine in
    (rw (size ((goal.at.put_patterns-requires c).Start), p.1) fine.cost-count, omega (arith, p.1, fine.few-ceilings), zeros-front links_held c.args.net.shape.m)

pub best_of-requires : goal.best_of-requires
best_of-requires c =
    let asked = (goal.at.best_of-requires c).After-put_patterns in
    let n = size ((goal.at.best_of-requires c).Start) in
    let i = c.args in
    let p = c.requires in
    let fine = i.net.plannable.fine in
    let net = net_of i.net.shape i.net.ends.now i.net.sums.now i.net.costs.now in (
      record { ends-size = fine.end-count ∙ ap (λ (m : ℕ). 2 * m) (sym fine.sum-count); sums-size = omega (arith, fine.sum-count, fine.few-links) },
      order-in-order _ _ _ (omega (arith, fine.sum-count, fine.few-links)) (λ e h. fine.cheap e (omega (arith, fine.sum-count))) p.0,
      rw ((front asked n).0, made asked n, fine.sum-count) (net-patterned net fine i.bounds.now p.1),
      order-joinable net fine _ _ i.net.plannable.tree p.0,
      fine.few-exceptions,
      p.2,
    )

pub returns : goal.returns
returns c =
    let asked = (goal.at.returns c).After-put_patterns in
    let n = size ((goal.at.returns c).Start) in
    assembled-network _ _ _ _ _ _ _ c.args.net.plannable.tree ((front asked n).0 ∙ made asked n) c.requires.0 c.best_of.ensures
