-- What reading a survey gives: its refusal, or a shape and lent columns that say its network at their fronts.
use Rattle.std.specs.Prelude.{ℕ, ◌*◌, ◌≤◌, Bool, List, ◌≡◌, ℤ, length, Result, Err, MatchResult}
use Rattle.std.proofs.Common.{sym, ◌∙◌, mul-le-mul, arith, ltb-false, length-take, length-take-le}
use Rattle.std.proofs.Math.Path.{ap, ap₂}
use Rattle.std.proofs.Math.ListN.{take}
use Rattle.network.specs.Accepted.{RecordsFine}
use Rattle.network.specs.Capacities.{ceilings_held, links_held}
use Rattle.network.specs.Checked.{Checked, no_refusal, refuse_if, ◌or_else◌}
use Rattle.network.proofs.Accepted.{records-fine}
use Rattle.network.specs.Layouts.{Roomy}
use Rattle.network.proofs.CheckedLaws.{refuse-fine}
use Rattle.network.proofs.CostsLaws.{costs-length}
use Rattle.network.specs.Limits.{max_plans}
use Rattle.network.specs.Network.{Network}
use Rattle.network.specs.NetworkFine.{NetworkFine}
use Rattle.network.proofs.NetworkFine.{ends-below, ends-length, network-fine, some-working}
use Rattle.network.specs.Refusals.{checked_with, records_checked, too_many_positions}
use Rattle.network.specs.Shaped.{Plannable, net_of}
use Rattle.network.specs.Survey.{ceilings_in, costs_in, ends_in, link_count, network_with, stations_in}
use Rattle.network.specs.Walk.{position_count}
use Rattle.network.specs.Yard.{tree_size}
use Rattle.network.specs.declared.net.Net.{Net}
use Rattle.network.specs.declared.refusals.Rule.TheVariants.{TooManyPositions}
use Rattle.network.specs.declared.Layout.{Layout}
use Rattle.network.specs.declared.refusals.Refusal.{Refusal}
use Rattle.network.specs.declared.Shape.{Shape}
use Rattle.stations.specs.Stations.{ends-stations}
use Rattle.survey_decoding.specs.Decoded.{Decodable, Decoded, net_at_fronts}
use Rattle.survey_reading.specs.Positions.{Countable, counted, too_many}
use Rattle.survey_layout.specs.declared.records.Records.{Records}

-- columns that hold those of any survey
pub record Lent (ends sums : List ℕ) (costs : List ℤ) : Type 0 where
  pub ends-size : length ends ≡ 2 * links_held
  pub sums-size : length sums ≡ links_held
  pub costs-size : length costs ≡ ceilings_held * links_held

-- the records of a survey that are not refused
pub record RecordsRead (s : List ℕ) (l : Layout) (r : Records) : Type 0 where
  pub bytes : r.bytes.now ≡ s
  pub layout : r.layout ≡ l
  pub links : r.m ≡ link_count l s
  pub checked : records_checked l s ≡ no_refusal

-- a shape and lent columns that say a network at their fronts, where the check finds `found` and the network is `net`
pub record Read (found : Checked) (net : Network) (ends sums : List ℕ) (costs : List ℤ) (shape : Shape) : Type 0 where
  pub checked : found ≡ no_refusal
  pub network : net_at_fronts shape ends sums costs ≡ net
  -- it can be planned
  pub plannable : Plannable shape (take (2 * shape.m) ends) (take shape.m sums) (take (shape.p * shape.m) costs)
  -- the fronts lie inside
  pub ends-inside : 2 * shape.m ≤ length ends
  pub sums-inside : shape.m ≤ length sums
  pub costs-inside : shape.p * shape.m ≤ length costs
  -- the ceiling costs are few
  pub few-costs : shape.p * shape.m ≤ ceilings_held * links_held

-- a survey that was read: its shape, or its refusal
abbrev pub SurveyRead : Checked → Network → Result Shape Refusal → List ℕ → List ℕ → List ℤ → Type 0
SurveyRead found net r ends sums costs = MatchResult r (Read found net ends sums costs) (λ refusal. found ≡ Err refusal)

-- a network that was read
pub record ReadAsNet (found : Checked) (net : Network) (r : Net) : Type 0 where
  pub checked : found ≡ no_refusal
  pub network : net_of r.shape r.ends.now r.sums.now r.costs.now ≡ net

-- a survey that was read as a network, or its refusal
abbrev pub NetRead : Checked → Network → Result Net Refusal → Type 0
NetRead found net r = MatchResult r (ReadAsNet found net) (λ refusal. found ≡ Err refusal)

-- records that are refused decide alone
pub read-refused : (s : List ℕ) (l : Layout) (r : Refusal) → records_checked l s ≡ Err r → checked_with l s ≡ Err r
unfolding checked_with ◌or_else◌
read-refused s l r e = rw e

-- records that were read are fine
pub read-fine : {s : List ℕ} {l : Layout} {r : Records} → Roomy l → RecordsRead s l r → RecordsFine s l
read-fine {s} {l} roomy read = records-fine s l roomy read.checked

-- what they are decoded into is that of the survey
pub read-decoded : {s : List ℕ} {l : Layout} {r : Records} {shape : Shape} {ends sums : List ℕ} {costs : List ℤ} → RecordsRead s l r
    → Decoded (network_with r.layout r.bytes.now r.m) shape ends sums costs → Decoded (network_with l s (link_count l s)) shape ends sums costs
read-decoded read d = rw (read.layout, read.bytes, read.links) at d

module _ {s : List ℕ} {l : Layout} (fine : RecordsFine s l) where
  -- its link count and its network
  abbrev m : ℕ
  m = link_count l s

  abbrev net : Network
  net = network_with l s m

  -- a survey whose records are fine has the room that decoding asks
  decodable : {ends sums : List ℕ} {costs : List ℤ} → Lent ends sums costs → Decodable s l m ends sums costs
  decodable lent =
      let links = fine.yard.few-links in
      let ceilings : ceilings_in s ≤ ceilings_held = omega (arith, fine.yard.few-ceilings, fine.records.roomy.ceilings) in
      record {
        priced = record { each = λ i h. (fine.link i h).priced };
        some-station = some-working s l fine;
        held = fine.yard.few-ceilings;
        ends-room = omega (arith, lent.ends-size);
        sums-room = omega (arith, lent.sums-size);
        costs-room = omega (arith, lent.costs-size, mul-le-mul ceilings links);
      }

  pub read-decodable : {r : Records} {ends sums : List ℕ} {costs : List ℤ} → RecordsRead s l r → Lent ends sums costs
      → Decodable r.bytes.now r.layout r.m ends sums costs
  read-decodable read lent = rw (read.layout, read.bytes, read.links) (decodable lent)

  module _ {shape : Shape} {ends sums : List ℕ} {costs : List ℤ} (d : Decoded net shape ends sums costs) where
    links : shape.m ≡ m
    unfolding network_with
    links = ap (λ (w : Network). w.m) d.network

    ceilings : shape.p ≡ ceilings_in s
    unfolding network_with
    ceilings = ap (λ (w : Network). w.p) d.network

    -- its columns at the fronts of those that were lent
    ends-are : take (2 * shape.m) ends ≡ ends_in l s m
    unfolding network_with
    ends-are = ap (λ (w : Network). w.ends) d.network

    costs-are : take (shape.p * shape.m) costs ≡ costs_in l s m (ceilings_in s)
    unfolding network_with
    costs-are = ap (λ (w : Network). w.costs) d.network

    pub ends-size : length (take (2 * shape.m) ends) ≡ 2 * shape.m
    ends-size = ap (λ (xs : List ℕ). length xs) ends-are ∙ ends-length s l fine ∙ ap (λ (k : ℕ). 2 * k) (sym links)

    pub costs-size : length (take (shape.p * shape.m) costs) ≡ shape.p * shape.m
    costs-size =
        ap (λ (xs : List ℤ). length xs) costs-are ∙ costs-length l s m (ceilings_in s) ∙ ap₂ ◌*◌ (sym ceilings) (sym links)

    -- these lie inside
    pub ends-fit : 2 * shape.m ≤ length ends
    ends-fit = omega (arith, ends-size, length-take (2 * shape.m) ends)

    pub costs-fit : shape.p * shape.m ≤ length costs
    costs-fit = omega (arith, costs-size, length-take (shape.p * shape.m) costs)

    -- they are few
    pub few-costs : shape.p * shape.m ≤ ceilings_held * links_held
    few-costs =
        let p : ceilings_in s ≤ ceilings_held = omega (arith, fine.yard.few-ceilings, fine.records.roomy.ceilings) in
        rw (links, ceilings) (mul-le-mul p fine.yard.few-links)

    -- its positions can be counted
    pub countable : Countable shape (take (2 * shape.m) ends) (take (shape.p * shape.m) costs)
    countable =
        record {
          stations = ends-stations (take (2 * shape.m) ends) (stations_in s) m fine.yard.few-stations (ends-size ∙ ap (λ (k : ℕ). 2 * k) links)
              (λ c h. rw ends-are (ends-below s l fine c h));
          costs-are = costs-size;
          links = rw links fine.yard.few-links;
          ceilings = rw ceilings (omega (arith, fine.yard.few-ceilings, fine.records.roomy.ceilings));
        }

    -- the ranks are as many as the ceilings
    ranks-are : length (take shape.p shape.k) ≡ shape.p
    ranks-are = length-take-le shape.p shape.k (omega (arith, countable.ceilings, d.ranks))

    -- its positions are counted right
    counted-over : (over : Bool) → over ≡ too_many shape (take (2 * shape.m) ends) (take (shape.p * shape.m) costs) → over ≡ too_many_positions net
    counted-over over e =
        e ∙ counted shape (take (2 * shape.m) ends) (take shape.m sums) (take (shape.p * shape.m) costs) ranks-are ∙ ap too_many_positions d.network

    -- the count of its positions decides the last number,
    last : records_checked l s ≡ no_refusal → (over : Bool) → over ≡ too_many shape (take (2 * shape.m) ends) (take (shape.p * shape.m) costs)
        → checked_with l s ≡ refuse_if over TooManyPositions 0
    unfolding checked_with ◌or_else◌
    last records over e = rw records (ap (λ (b : Bool). refuse_if b TooManyPositions 0) (sym (counted-over over e)))

    -- which it has too many of, or
    pub read-over : records_checked l s ≡ no_refusal → (over : Bool) → over ≡ too_many shape (take (2 * shape.m) ends) (take (shape.p * shape.m) costs)
        → (r : Refusal) → refuse_if over TooManyPositions 0 ≡ Err r → checked_with l s ≡ Err r
    read-over records over e r f = last records over e ∙ f

    -- which it has no more of than 1,600:
    pub read-last : records_checked l s ≡ no_refusal → (over : Bool) → over ≡ too_many shape (take (2 * shape.m) ends) (take (shape.p * shape.m) costs)
        → refuse_if over TooManyPositions 0 ≡ no_refusal → checked_with l s ≡ no_refusal
    read-last records over e f = last records over e ∙ f

    -- so that it can be planned
    pub read-planned : (over : Bool) → over ≡ too_many shape (take (2 * shape.m) ends) (take (shape.p * shape.m) costs)
        → refuse_if over TooManyPositions 0 ≡ no_refusal
        → Plannable shape (take (2 * shape.m) ends) (take shape.m sums) (take (shape.p * shape.m) costs)
    unfolding too_many_positions
    read-planned over e f =
        let few : position_count net ≤ max_plans = ltb-false _ _ (sym (counted-over over e) ∙ refuse-fine _ _ _ f) in
        let net-fine : NetworkFine (net_at_fronts shape ends sums costs) = rw d.network (network-fine s l fine few) in
        record { fine = net-fine; tree = d.tree ∙ ap tree_size (sym d.network); ranks = d.ranks }

    -- and is read
    pub read : records_checked l s ≡ no_refusal → (over : Bool) → over ≡ too_many shape (take (2 * shape.m) ends) (take (shape.p * shape.m) costs)
        → refuse_if over TooManyPositions 0 ≡ no_refusal → Read (checked_with l s) net ends sums costs shape
    read records over e f =
        let planned = read-planned over e f in
        record {
          checked = read-last records over e f;
          network = d.network;
          plannable = planned;
          ends-inside = omega (arith, planned.fine.end-count, length-take (2 * shape.m) ends);
          sums-inside = omega (arith, planned.fine.sum-count, length-take shape.m sums);
          costs-inside = omega (arith, planned.fine.cost-count, length-take (shape.p * shape.m) costs);
          few-costs = few-costs;
        }
