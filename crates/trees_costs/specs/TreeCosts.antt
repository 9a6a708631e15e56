-- The costs of a list of links: what the code computes of the columns is what the network's definitions say.
use Prim.Native.Nat.{ℕ, zero, suc, ◌+◌, ◌*◌, ◌≤◌, ◌<◌}
use Rattle.std.specs.Prelude.{◌≡◌, refl, true, ◌&&◌, List, [], ◌∷◌, map, eqb, ltb, pos, drop, get_or, length, replicate, set, take}
use Rattle.std.proofs.Math.Path.{sym}
use Rattle.std.proofs.Common.{◌∙◌, add-one, suc-mul, drop-drop, ext_get_or, get_or-take}
use Rattle.std.proofs.Math.Nat.{mul-le-mul_right, zero-add}
use native.Mathlib.Omega.{arith}
use borrow.Author.Tests.{eqb-true, ltb-false, ltb-true}
use Rattle.std.proofs.Math.IntN.{ℤ}
use Rattle.order.specs.Test.{by-test, left}
use Rattle.order.proofs.Test.{right}
use Rattle.order.specs.Lists.{all}
use Rattle.order.proofs.Lists.{get_or-mem}
use Rattle.order.specs.Order.{orderℤ}
use Rattle.order.specs.Lowered.{sum-lowered}
use Rattle.kmax.specs.KMax.{kmax}
use Rattle.planning.specs.Graph.{Graph, costs_from}
use Rattle.spanning.specs.Tree as tree
use Rattle.spanning.specs.Rising.{is_rising_in}
use Rattle.spanning.proofs.Rising.{is_rising_in-iff, rising-range}
use Rattle.spanning.specs.Listing.{is_listed}
use Rattle.network.specs.Capacities.{ceilings_held, links_held, raise, sum_held, tree_held}
use Rattle.network.specs.Column.{column}
use Rattle.network.proofs.Column.{column-at, column-length, column-more, column-none, column-past}
use Rattle.network.specs.Network.{Network}
use Rattle.network.specs.PlanList.{costs_of}
use Rattle.network.specs.Shaped.{Plannable, net_of}
use Rattle.network.proofs.Tabulate.{tabulate-at, tabulate-length}
use Rattle.network.proofs.Resting.{working-few}
use Rattle.network.specs.Yard.{ceiling_costs, ceiling_part, ends, graph, is_tree, stations, sum_at, tree_size, tree_sum, usable}
use Rattle.network.specs.declared.Costs.{Costs}
use Rattle.network.specs.declared.Shape.{Shape}
use Rattle.trees_costs.specs.Added.{Below, lowered_sum, sum-le, sum_of}
use Rattle.trees_costs.specs.Ceiling.{ceiling_of}

-- ---- definitions

-- the costs of links by the first i ceilings, which have the ranks ks, and 0 for the others; each ceiling's part of the costs has m entries
unfoldable pub ceilings_to : ℕ → List ℕ → List ℤ → List ℕ → ℕ → List ℤ
ceilings_to m ks costs ts i = column ceilings_held (pos 0) (λ j. ceiling_of (ceiling_part m costs j) (get_or ks j 0) ts) i

-- their costs by all ceilings of the shape
unfoldable pub ceilings_by : Shape → List ℤ → List ℕ → List ℤ
ceilings_by shape costs ts = ceilings_to shape.m shape.k costs ts shape.p

-- the costs of links whose raised sum costs add up to `raised`
unfoldable pub costs_by : Shape → List ℤ → List ℕ → ℕ → Costs
costs_by shape costs ts raised = record { sum = lowered_sum raised (length ts); y = ceilings_by shape costs ts }

-- links that have such costs: known, at most t, with ranks of theirs
pub record Ceiled (shape : Shape) (costs : List ℤ) (ts : List ℕ) : Type 0 where
  pub room : length shape.k ≡ ceilings_held
  pub few-ceilings : shape.p ≤ ceilings_held
  pub few-links : shape.m ≤ links_held
  pub size : length costs ≡ shape.p * shape.m
  pub known : Below shape.m ts
  pub few : length ts ≤ tree_held
  pub rank : (i : ℕ) → i < shape.p → (0 < get_or shape.k i 0) × (get_or shape.k i 0 ≤ length ts)

-- and a sum in range
pub record Priceable (shape : Shape) (costs : List ℤ) (ts : List ℕ) (raised : ℕ) : Type 0 where
  pub ceiled : Ceiled shape costs ts
  pub small : raised ≤ links_held * sum_held

-- ---- the loop over the ceilings

-- the columns of the ceilings after ceiling i
pub columns-turn : (m : ℕ) (costs : List ℤ) (i : ℕ) {columns : List ℤ} → columns ≡ drop (i * m) costs → drop m columns ≡ drop ((i + 1) * m) costs
columns-turn m costs i e = let n : (i + 1) * m ≡ i * m + m = omega (arith, add-one i, suc-mul i m) in rw (e, n) (drop-drop m (i * m) costs)

module _ (m : ℕ) (ks : List ℕ) (costs : List ℤ) (ts : List ℕ) where
  pub ceilings-none : replicate ceilings_held (pos 0) ≡ ceilings_to m ks costs ts 0
  unfolding ceilings_to
  ceilings-none = sym (column-none ceilings_held (pos 0) _)

  pub ceilings-turn : (i : ℕ) {l columns : List ℤ} {k : ℕ} {x : ℤ} → l ≡ ceilings_to m ks costs ts i → columns ≡ drop (i * m) costs → k ≡ get_or ks i 0
      → x ≡ ceiling_of (take m columns) k ts → set l i x ≡ ceilings_to m ks costs ts (i + 1)
  unfolding ceilings_to
  ceilings-turn i e f r q =
      rw (e, q, f, r) (sym (column-more ceilings_held (pos 0) (λ j. ceiling_of (ceiling_part m costs j) (get_or ks j 0) ts) i))

module _ (shape : Shape) (costs : List ℤ) (ts : List ℕ) where
  pub ceilings-end : (i : ℕ) {l : List ℤ} → l ≡ ceilings_to shape.m shape.k costs ts i → i ≡ shape.p → l ≡ ceilings_by shape costs ts
  unfolding ceilings_by
  ceilings-end i e q = rw (e, q)

  -- one for each ceiling that is held
  ceilings-full : length (ceilings_by shape costs ts) ≡ ceilings_held
  unfolding ceilings_by ceilings_to
  ceilings-full = column-length ceilings_held (pos 0) _ shape.p

-- ---- of a network

-- t links of the network, in any order
pub record TreeLinks (net : Network) (ts : List ℕ) : Type 0 where
  pub size : length ts ≡ tree_size net
  pub known : Below net.m ts

-- number i of the ceiling costs from number j on, and what stands past the last
costs-at : (G : Graph) (j : ℕ) (ks ts : List ℕ) (i : ℕ) → i < length ks
    → get_or (costs_from G j ks ts) i (pos 0) ≡ kmax orderℤ (get_or ks i 0) (map (G.cost (j + i)) ts) (pos 0)
costs-at G j [] ts i h = absurd (omega arith)
costs-at G j (k ∷ ks) ts zero h = let e : j + 0 ≡ j = omega arith in rw e
costs-at G j (k ∷ ks) ts (suc i) h =
    let e : j + suc i ≡ suc j + i = omega arith in
    rw e (costs-at G (suc j) ks ts i (omega arith))

costs-past : (G : Graph) (j : ℕ) (ks ts : List ℕ) (i : ℕ) → length ks ≤ i → get_or (costs_from G j ks ts) i (pos 0) ≡ pos 0
costs-past G j [] ts i h = refl
costs-past G j (k ∷ ks) ts zero h = absurd (omega arith)
costs-past G j (k ∷ ks) ts (suc i) h = costs-past G (suc j) ks ts i (omega arith)

module _ (shape : Shape) (ends sums : List ℕ) (costs : List ℤ) (can : Plannable shape ends sums costs) (ts : List ℕ) where
  abbrev net : Network
  net = net_of shape ends sums costs

  rank-at : (i : ℕ) → i < shape.p → get_or net.k i 0 ≡ get_or shape.k i 0
  rank-at i h = get_or-take shape.p shape.k i 0 h

  -- each ceiling cost
  ceiling-at : (i : ℕ) → i < ceilings_held → get_or (ceilings_by shape costs ts) i (pos 0) ≡ get_or (ceiling_costs net ts) i (pos 0)
  unfolding ceilings_by ceilings_to ceiling_of
  ceiling-at i h =
      by-test (ltb i shape.p)
      (λ q.
      let present = ltb-true i shape.p q in
      let few = can.fine.few-ceilings in
      let count = can.fine.rank-count in
      column-at ceilings_held (pos 0) f shape.p i present few (pos 0)
      ∙ rw (← rank-at i present) (sym (rw zero-add at (costs-at (graph net) 0 net.k ts i (omega arith)))))
      (λ q.
      let absent = ltb-false i shape.p q in
      let count = can.fine.rank-count in
      column-past ceilings_held (pos 0) f shape.p i absent h (pos 0) ∙ sym (costs-past (graph net) 0 net.k ts i (omega arith)))
    where
      f : ℕ → ℤ
      f j = ceiling_of (ceiling_part shape.m costs j) (get_or shape.k j 0) ts

  -- and so all of them
  ceilings-net : ceilings_by shape costs ts ≡ (costs_of net ts).y
  ceilings-net =
      let size = ceilings-full shape costs ts in
      ext_get_or (pos 0) (ceilings_by shape costs ts) (costs_of net ts).y (size ∙ sym (tabulate-length at ceilings_held))
      (λ i h. ceiling-at i (omega (arith, size)) ∙ sym (tabulate-at at ceilings_held i (omega (arith, size)) (pos 0)))
    where
      at : ℕ → ℤ
      at j = get_or (ceiling_costs net ts) j (pos 0)

  -- THE LAW: these are the tree's costs
  pub costs-net : costs_by shape costs ts (sum_of sums ts) ≡ costs_of net ts
  unfolding costs_by sum_of lowered_sum
  costs-net =
      let s : tree_sum net ts ≡ lowered_sum (sum_of sums ts) (length ts) = sum-lowered raise (sum_at sums) ts in
      λ i. record { sum = sym s i; y = ceilings-net i }

  module _ (links : TreeLinks net ts) where
    -- t links are few
    pub links-few : length ts ≤ tree_held
    links-few = let size = links.size in let few = can.fine.few-stations in omega (arith, working-few shape.n shape.rest)

    -- their raised sum costs add up to no more than those of all links can
    sum-small : sum_of sums ts ≤ links_held * sum_held
    unfolding sum_of
    sum-small =
        let all = sum-le (sum_at sums) sum_held ts (λ c m. can.fine.cheap c (links.known.below c m)) in
        omega (arith, links-few, mul-le-mul_right sum_held links-few)

    -- they have costs
    pub priceable : Priceable shape costs ts (sum_of sums ts)
    priceable =
        record {
          ceiled = record {
            room = can.ranks;
            few-ceilings = can.fine.few-ceilings;
            few-links = can.fine.few-links;
            size = can.fine.cost-count;
            known = links.known;
            few = links-few;
            rank = λ i h.
                let count = can.fine.rank-count in
                rw (rank-at i h, ← links.size) at (can.fine.ranked (get_or net.k i 0) (get_or-mem net.k i 0 (omega arith)));
          };
          small = sum-small;
        }

-- a tree has t links of the network
pub tree-links : (net : Network) (ts : List ℕ) → is_tree net ts ≡ true → TreeLinks net ts
unfolding is_listed
tree-links net ts e =
    let used = all (usable net) ts && tree.is_tree (stations net) (map (ends net) ts) in
    let rest = is_rising_in 0 net.m ts && used in
    let rising = left (is_rising_in 0 net.m ts) used (right (eqb (length ts) (tree_size net)) rest e) in
    record {
      size = eqb-true (length ts) (tree_size net) (left (eqb (length ts) (tree_size net)) rest e);
      known = record { below = λ c m. (rising-range 0 net.m ts ((is_rising_in-iff 0 net.m ts).0 rising) c m).1 };
    }
