-- What holds of the network of an accepted survey, said with no byte in it, and so of the graph that the theory speaks of; and that the arrays of the
-- code hold it.
use Rattle.std.specs.Prelude.{ℕ, zero, suc, ◌+◌, ◌-◌, ◌*◌, ◌/◌, ◌%◌, ◌^◌, ◌≤◌, ◌<◌, ◌≡◌, ◌&&◌, false, not, List, [], ◌∷◌, eqb, leb, ltb, drop, get_or, length, take}
use Rattle.std.proofs.Common.{ap, ◌∙◌, le_of_eq, le_trans, mul_comm, mul-le-mul, pow-suc, arith, length-take, get_or-take}
use Rattle.std.proofs.Math.Nat.{pow-le-pow_right, pow-zero}
use borrow.Author.Tests.{eqb-false, le-ltb, leb-false, ltb-false, lt-ltb}
use Rattle.std.proofs.Math.ListN.{length-drop}
use Rattle.std.proofs.Math.Seq.{length-take-le}
use Rattle.order.specs.Lists.{◌∈◌}
use Rattle.order.proofs.Lists.{mem-get_or}
use Rattle.order.specs.Test.{by-test}
use Rattle.order.proofs.Lowered.{lowered-weighs}
use Rattle.spanning.specs.Tree.{EndsBelow}
use Rattle.frontier.specs.Frontier.{product}
use Rattle.kmax.specs.Ceilings.{slack_of}
use Rattle.planning.specs.Graph.{Graph, Sound, values_at, values_from}
use Rattle.planning.proofs.Grid.{values-few}
use Rattle.network.specs.Limits.{max_links, max_plans, max_slack, max_tree}
use Rattle.network.specs.Capacities.{exceptions_held, raise}
use Rattle.network.specs.Bytes.{byte_at}
use Rattle.network.specs.Network.{Network}
use Rattle.network.proofs.Tabulate.{tabulate-at, tabulate-length}
use Rattle.network.specs.Survey.{ceilings_in, end_in, ends_in, layout_of, link_count, link_start, narrow_slots, network_of, network_with, ranks_at, ranks_in}
use Rattle.network.specs.Survey.{rest_in, stations_in, wide_slots, working_in}
use Rattle.network.specs.Refusals.{any_bad_rank, bad_present, bad_rank, bad_ranks, bad_rest, checked_of, too_many_positions}
use Rattle.network.specs.Yard.{ends, ends_at, graph, ranks, sum_at, tree_size}
use Rattle.network.proofs.Resting.{joins-within, working-apart, working-few}
use Rattle.network.specs.Walk.{position_count}
use Rattle.network.specs.PlanList.{buffer_need, max_need, plan_size, plan_slots}
use Rattle.network.specs.Accepted.{RecordsFine}
use Rattle.network.proofs.Accepted.{accepted-positions, accepted-records, or-false}
use Rattle.network.proofs.CostsLaws.{costs-length}
use Rattle.network.proofs.Sums.{raised_at, raised-small, sums-length}
use Rattle.network.specs.Checked.{no_refusal}
use Rattle.network.specs.declared.Layout.{Layout}
use Rattle.network.specs.NetworkFine.{NetworkFine, WithinLimits}

-- ---- the ranks

-- the rank of a present ceiling is at least 1 and below n
present-rank : (n p j k : ℕ) → bad_rank n p j k ≡ false → j < p → (0 < k) × (k ≤ n - 1)
present-rank n p j k e h =
    let a : ltb j p && bad_present n k ≡ false = (or-false _ _ e).0 in
    let b = or-false _ _ (rw (lt-ltb j p h) at a) in
    let c = or-false _ _ b.0 in
    let low : 1 ≤ k = ltb-false _ _ c.0 in
    let high : k < n = leb-false _ _ b.1 in
    (omega arith, omega arith)

-- the rule holds of each rank: the one at i is that of ceiling c
each-rank : (n p j : ℕ) (ks : List ℕ) → any_bad_rank n p j ks ≡ false → (i c : ℕ) → i < length ks → c ≡ i + j → bad_rank n p c (get_or ks i 0) ≡ false
each-rank n p j [] e i c h q = absurd (omega arith)
each-rank n p j (k ∷ ks) e zero c h q =
    let own : c ≡ j = omega arith in
    rw own (or-false (bad_rank n p j k) (any_bad_rank n p (j + 1) ks) e).0
each-rank n p j (k ∷ ks) e (suc i) c h q =
    each-rank n p (j + 1) ks (or-false (bad_rank n p j k) (any_bad_rank n p (j + 1) ks) e).1 i c (omega arith) (omega arith)

-- each present rank is at least 1 and at most t
ranks-present : (n p : ℕ) (ks : List ℕ) → any_bad_rank n p 0 ks ≡ false → (k : ℕ) → k ∈ take p ks → (0 < k) × (k ≤ n - 1)
ranks-present n p ks e k m =
    let w = mem-get_or 0 m in
    let short = w.1 in
    let i : w.0 < p = omega (arith, length-take p ks) in
    let each = each-rank n p 0 ks e w.0 w.0 (omega (arith, length-take p ks)) (omega arith) in
    rw (w.2 ∙ get_or-take p ks w.0 0 i) (present-rank n p w.0 (get_or ks w.0 0) each i)

-- fewer ranks have no more above 1
slack-take : (p : ℕ) (ks : List ℕ) → slack_of (take p ks) ≤ slack_of ks
slack-take zero ks = omega arith
slack-take (suc p) [] = omega arith
slack-take (suc p) (k ∷ ks) = omega (arith, slack-take p ks)

-- ---- limits of the walk and of the list, for any number of ceilings

-- with at most b links there are at most b positions to the power of the number of ceilings
values-power : (G : Graph) (b : ℕ) → G.m ≤ b → (i : ℕ) (ks : List ℕ) → product (values_from G i ks) ≤ b ^ length ks
values-power G b h i [] = omega (arith, pow-zero b)
values-power G b h i (k ∷ ks) =
    let few : length (values_at G i) ≤ b = omega (arith, values-few G i) in
    let power : b ^ length (k ∷ ks) ≡ b ^ length ks * b = pow-suc b (length ks) in
    rw power (le_trans (mul-le-mul few (values-power G b h (suc i) ks)) (le_of_eq (mul_comm b (b ^ length ks))))

-- m links make at most m positions to the power of the number of ceilings
pub position-power : (net : Network) → position_count net ≤ net.m ^ length (ranks net)
position-power net = values-power (graph net) net.m (omega arith) 0 (ranks net)

-- with up to two ceilings M is at most 1,600
pub narrow-positions : (net : Network) → net.m ≤ max_links → length (ranks net) ≤ narrow_slots → position_count net ≤ max_plans
narrow-positions net links ceilings =
    le_trans (values-power (graph net) max_links links 0 (ranks net)) (pow-le-pow_right {n = max_links} (omega arith) ceilings)

-- a tree has at most 23 links
pub tree-limit : (net : Network) → WithinLimits net → tree_size net ≤ max_tree
tree-limit net few = omega (arith, few.stations, working-few net.n net.rest)

-- a plan record has room for at most three ceiling costs
pub slots-few : (p : ℕ) → plan_slots p ≤ wide_slots
unfolding plan_slots
slots-few p = by-test (leb p narrow_slots) (λ e. rw e (omega arith)) (λ e. rw e (omega arith))

-- what a list buffer needs is at most 56,010 bytes
pub need-limit : (net : Network) → WithinLimits net → buffer_need net ≤ max_need
need-limit net few =
    let links : plan_size (plan_slots net.p) (tree_size net) ≤ plan_size wide_slots max_tree = omega (arith, tree-limit net few, slots-few net.p) in
    omega (arith, mul-le-mul few.positions links)

-- ---- the network

-- end j of link i, in the ends of m links
pub end-at : (l : Layout) (s : List ℕ) (m i j : ℕ) → i < m → j < 2 → get_or (ends_in l s m) (2 * i + j) 0 ≡ end_in s (link_start l i) j
unfolding ends_in
end-at l s m i j hi hj =
    let half : (2 * i + j) / 2 ≡ i = omega arith in
    let rest : (2 * i + j) % 2 ≡ j = omega arith in
    tabulate-at (λ q. end_in s (link_start l (q / 2)) (q % 2)) (2 * m) (2 * i + j) (omega arith) 0 ∙ rw (half, rest)

module _ (s : List ℕ) (l : Layout) (fine : RecordsFine s l) where
  abbrev m : ℕ
  m = link_count l s

  abbrev net : Network
  net = network_with l s m

  -- there are as many ranks as ceilings
  ranks-length : length (take (ceilings_in s) (ranks_in l s)) ≡ ceilings_in s
  unfolding ranks_in
  ranks-length =
      let all = length-take-le l.slots (drop ranks_at s)
      (omega (arith, length-drop ranks_at s, fine.records.size, fine.records.roomy.yard)) in
      length-take-le (ceilings_in s) (take l.slots (drop ranks_at s)) (omega (arith, fine.yard.few-ceilings))

  -- the limits
  pub network-limits : position_count net ≤ max_plans → WithinLimits net
  unfolding network_with
  network-limits few = record {
    stations = fine.yard.few-stations;
    links = fine.yard.few-links;
    ceilings = omega (arith, ranks-length, fine.yard.few-ceilings, fine.records.roomy.ceilings);
    positions = few;
  }

  -- where the layout has room for two ceilings there are never too many positions
  pub narrow-few : l.slots ≡ narrow_slots → too_many_positions net ≡ false
  unfolding network_with too_many_positions
  narrow-few e = le-ltb max_plans _ (narrow-positions net fine.yard.few-links (omega (arith, ranks-length, fine.yard.few-ceilings, e)))

  -- both ends of a link are stations
  pub ends-below : (i : ℕ) → i < m → EndsBelow (stations_in s) (ends_at (ends_in l s m) i)
  ends-below i h =
      let both : 2 * i + 0 ≡ 2 * i = omega arith in
      let first : link_start l i + 2 + 0 ≡ link_start l i + 2 = omega arith in
      let second : link_start l i + 2 + 1 ≡ link_start l i + 3 = omega arith in (
        rw (rw both at (end-at l s m i 0 h (omega arith)) ∙ ap (byte_at s) first) (fine.link i h).first-end,
        rw (end-at l s m i 1 h (omega arith) ∙ ap (byte_at s) second) (fine.link i h).second-end,
      )

  pub ends-length : length (ends_in l s m) ≡ 2 * m
  unfolding ends_in
  ends-length = tabulate-length _ (2 * m)

  -- the number of working stations, of which there is one at least
  abbrev working : ℕ
  working = length (working_in l s)

  pub some-working : 1 ≤ working
  unfolding bad_rest
  some-working =
      let both = or-false (not (eqb (rest_in l s / 2 ^ stations_in s) 0)) (eqb working 0) fine.yard.resting in
      omega (arith, eqb-false working 0 both.1)

  slack : slack_of (take (ceilings_in s) (ranks_in l s)) ≤ exceptions_held
  unfolding bad_ranks
  slack =
      let all = ltb-false max_slack (slack_of (ranks_in l s)) (or-false (any_bad_rank working (ceilings_in s) 0 (ranks_in l s)) _ fine.yard.ranks).1 in
      omega (arith, slack-take (ceilings_in s) (ranks_in l s))

  rank-rule : any_bad_rank working (ceilings_in s) 0 (ranks_in l s) ≡ false
  unfolding bad_ranks
  rank-rule = (or-false _ _ fine.yard.ranks).0

  -- THE THEOREM: the network of such a survey can be planned where it has no more than 1,600 positions
  pub network-fine : position_count net ≤ max_plans → NetworkFine net
  unfolding network_with
  network-fine few =
      record {
        some-station = some-working;
        rank-count = ranks-length;
        end-count = ends-length;
        sum-count = sums-length l s m;
        cost-count = costs-length l s m (ceilings_in s);
        ranked = ranks-present working (ceilings_in s) (ranks_in l s) rank-rule;
        first-end = λ i h. (ends-below i h).0;
        second-end = λ i h. (ends-below i h).1;
        few-stations = fine.yard.few-stations;
        few-links = fine.yard.few-links;
        few-ceilings = omega (arith, fine.yard.few-ceilings, fine.records.roomy.ceilings);
        few-exceptions = slack;
        few-positions = few;
        cheap = λ i h. rw (raised_at s l m i h) (raised-small _ (fine.link i h).priced);
      }

pub survey-fine : (s : List ℕ) → checked_of s ≡ no_refusal → NetworkFine (network_of s)
survey-fine s e = network-fine s (layout_of s) (accepted-records s e) (accepted-positions s e)

pub survey-limits : (s : List ℕ) → checked_of s ≡ no_refusal → WithinLimits (network_of s)
survey-limits s e = network-limits s (layout_of s) (accepted-records s e) (accepted-positions s e)

-- ---- the graph

pub graph-sound : (net : Network) → NetworkFine net → Sound (graph net)
graph-sound net fine =
    record {
      some-station = fine.some-station;
      apart = working-apart net.n net.rest;
      within = λ c h u. joins-within net.n net.rest (ends net c) (fine.first-end c h) (fine.second-end c h) u;
      weighs = lowered-weighs raise (sum_at net.sums);
      ranks = fine.ranked;
    }

pub survey-sound : (s : List ℕ) → checked_of s ≡ no_refusal → Sound (graph (network_of s))
survey-sound s e = graph-sound (network_of s) (survey-fine s e)
