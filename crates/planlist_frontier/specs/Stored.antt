-- Plans of any problem of whole numbers, stored as records: a record in the frontier is its plan in the frontier.
use mathlib.Core.List.Memᴰ
use mathlib.Core.List.Memᴰ.{head as here}
use mathlib.Core.List.Memᴰ.{tail as there}
use Rattle.std.specs.Prelude.{List, [], ◌∷◌, ◌++◌, map, true, ◌⊎◌, ◌≡◌, refl, ℕ, zero, suc, ◌-◌, ◌≤◌, ℤ, pos, get_or, length, replicate}
use Rattle.std.proofs.Common.{inl, inr, sym, ap, ◌∙◌, arith, length-append}
use Rattle.std.proofs.Math.Path.{ap₂, subst⁻¹}
use Rattle.std.proofs.Math.Nat.{sub-zero}
use Rattle.std.proofs.lemmas.List.{length-map}
use Rattle.std.specs.Int.Signed.{le_z}
use Rattle.order.specs.Lists.{◌∈◌}
use Rattle.order.proofs.Lists.{map-mem}
use Rattle.order.specs.Order.{TotalOrder, dictionary_le, orderℤ}
use Rattle.order.specs.Sorted.{Rising}
use Rattle.frontier.specs.Dominance.{le_all}
use Rattle.frontier.specs.Frontier.{Problem, insert_plan, vector, vector_order}
use Rattle.frontier.proofs.Plans.{collect-member}
use Rattle.planning.specs.Graph.{Graph, costs_from}
use Rattle.network.specs.Capacities.{ceilings_held}
use Rattle.network.specs.Tabulate.{tabulate}
use Rattle.network.proofs.Tabulate.{tabulate-first, tabulate-none}
use Rattle.network.specs.Yard.{ceiling_costs, graph, ranks, tree_sum, yard}
use Rattle.network.specs.PlanList.{costs_at, costs_of}
use Rattle.network.specs.Calls.{cost_values}
use Rattle.network.specs.declared.Costs.{Costs}
use Rattle.network.specs.Network.{Network}
use Rattle.encoding.specs.Blocks.{blocks, blocks-none, length-blocks}
use Rattle.planlist_records.specs.Held.{Writable, costs-encoded}
use Rattle.planlist_records.specs.Orders.{at_most}
use Rattle.planlist_records.specs.Records.{encode}
use Rattle.planlist_frontier.specs.Insertion.{RecordsRise, insert_record, records}
use Rattle.planlist_frontier.specs.Level.{Level}
use Rattle.planlist_frontier.specs.Alike.{Alike, dictionary-append, insert-alike, le_all-append, rising-alike}

-- Solutions with their costs and links, and records with room for `slots` ceiling costs; `pad` stands for the entries of absent ceilings.
module _ {S : Type 0} (P : Problem ℤ S) (slots : ℕ) (costs : S → Costs) (links : S → List ℕ) (pad : List ℤ) where
  -- a solution's costs are its vector and the padding
  pub record Padded (s : S) : Type 0 where
    pub values : cost_values (costs s) ≡ vector P s ++ pad
    pub held : length (costs s).y ≡ ceilings_held

  -- and a record can hold them: its record stands for it
  pub record Stored (s : S) : Type 0 where
    pub writable : Writable slots (costs s)
    pub padded : Padded s

  -- the first n records of z bytes are those of the plans l
  pub record Holds (z n : ℕ) (bs : List ℕ) (l : List S) : Type 0 where
    pub records-are : blocks z n bs ≡ map (encode slots costs links) l
    pub stored : (s : S) → s ∈ l → Stored s

  -- its record has that vector
  held : (s : S) → Stored s → vector (records slots) (encode slots costs links s) ≡ vector P s ++ pad
  held s h = ap cost_values (costs-encoded slots (costs s) (links s) h.writable) ∙ h.padded.values

  -- vectors that take the same padding have one length
  same_length : (s q : S) → Padded s → Padded q → length (vector P s) ≡ length (vector P q)
  same_length s q h k =
      let a = ap length h.values in
      let b = ap length k.values in
      let c = length-append (vector P s) pad in
      let d = length-append (vector P q) pad in
      omega (arith, h.held, k.held)

  module _ (ordered : P.order ≡ orderℤ) where
    -- the padding changes no comparison
    unpadded : (s q : S) → Padded s → Padded q → le_all orderℤ (vector P s ++ pad) (vector P q ++ pad) ≡ le_all P.order (vector P s) (vector P q)
    unpadded s q h k =
        le_all-append orderℤ (vector P s) (vector P q) pad (same_length s q h k) ∙ ap (λ (O : TotalOrder ℤ). le_all O (vector P s) (vector P q)) (sym ordered)

    -- records compare as the vectors do
    alike : (s q : S) → Stored s → Stored q → Alike P (records slots) (encode slots costs links) s q
    alike s q h k = record {
      at-most =
          ap₂ (le_all orderℤ) (held s h) (held q k) ∙ unpadded s q h.padded k.padded;
      in_order =
          ap₂ (dictionary_le orderℤ) (held s h) (held q k)
          ∙ dictionary-append orderℤ (vector P s) (vector P q) pad (same_length s q h.padded k.padded)
          ∙ ap (λ (O : TotalOrder ℤ). dictionary_le O (vector P s) (vector P q)) (sym ordered);
    }

    -- THE LAW: insertion of a plan's record among the records of plans is insertion of the plan
    pub insert-stored : (s : S) (l : List S) → ((q : S) → q ∈ s ∷ l → Stored q)
        → insert_record slots (encode slots costs links s) (map (encode slots costs links) l) ≡ map (encode slots costs links) (insert_plan P s l)
    unfolding insert_record
    insert-stored s l h = insert-alike P (records slots) (encode slots costs links) s l (λ x y m n. alike x y (h x m) (h y n))

    -- the records of rising plans rise
    pub holds-rise : {z n : ℕ} {bs : List ℕ} (l : List S) → Holds z n bs l → Rising (vector_order P) (vector P) l → RecordsRise slots (blocks z n bs)
    holds-rise l h r =
        subst⁻¹ (RecordsRise slots) h.records-are
        (record { rising = rising-alike P (records slots) (encode slots costs links) l (λ x y m n. alike x y (h.stored x m) (h.stored y n)) r })

    -- and so do costs
    compare : (s t : S) → Padded s → Padded t → at_most (costs s) (costs t) ≡ le_all P.order (vector P s) (vector P t)
    unfolding at_most
    compare s t h k = ap₂ (le_all orderℤ) h.values k.values ∙ unpadded s t h k

    -- the records of plans that compare with t only where they have its sum
    pub holds-level : {z n : ℕ} {bs : List ℕ} (l : List S) → Holds z n bs l → (t : S) → Padded t
        → ((s : S) → s ∈ l → le_all P.order (vector P s) (vector P t) ≡ true → le_z (costs t).sum (costs s).sum ≡ true)
        → ((s : S) → s ∈ l → le_all P.order (vector P t) (vector P s) ≡ true → le_z (costs s).sum (costs t).sum ≡ true)
        → Level slots (costs t) (blocks z n bs)
    holds-level l h t k low high =
        subst⁻¹ (Level slots (costs t)) h.records-are
        (record {
          none-lower = λ b m e.
              let w = map-mem (encode slots costs links) l b m in
              let is = costs-of w.0 w.1 b w.2 in
              rw is (low w.0 w.1 (sym (compare w.0 t (h.stored w.0 w.1).padded k) ∙ (rw is at e)));
          none-higher = λ b m e.
              let w = map-mem (encode slots costs links) l b m in
              let is = costs-of w.0 w.1 b w.2 in
              rw is (high w.0 w.1 (sym (compare t w.0 k (h.stored w.0 w.1).padded) ∙ (rw is at e)));
        })
      where
        costs-of : (s : S) → s ∈ l → (b : List ℕ) → b ≡ encode slots costs links s → costs_at slots b 0 ≡ costs s
        costs-of s m b e = ap (λ (c : List ℕ). costs_at slots c 0) e ∙ costs-encoded slots (costs s) (links s) (h.stored s m).writable

    -- what a call that inserts the record of s does to bytes that hold the plans l
    pub holds-inserted : {z n n' : ℕ} {bs bs' : List ℕ} (s : S) (l : List S) → Holds z n bs l → Stored s
        → blocks z n' bs' ≡ insert_record slots (encode slots costs links s) (blocks z n bs) → Holds z n' bs' (insert_plan P s l)
    holds-inserted s l h k e = record {
      records-are = e ∙ ap (insert_record slots (encode slots costs links s)) h.records-are ∙ insert-stored s l old;
      stored = λ q m. go q (collect-member P (s ∷ []) l m);
    }
      where
        old : (q : S) → q ∈ s ∷ l → Stored q
        old q (here e) = rw e k
        old q (there m) = h.stored q m

        go : (q : S) → (q ∈ l) ⊎ (q ∈ s ∷ []) → Stored q
        go q (inl m) = h.stored q m
        go q (inr (here e)) = rw e k
        go q (inr (there m)) = absurd (Memᴰ.not-nil m)

  -- no records are those of no plans
  pub holds-none : (z : ℕ) (bs : List ℕ) → Holds z 0 bs []
  holds-none z bs = record { records-are = blocks-none z 0 bs refl; stored = λ s m. absurd (Memᴰ.not-nil m) }

  -- there are as many records as plans
  pub holds-count : {z n : ℕ} {bs : List ℕ} {l : List S} → Holds z n bs l → n ≡ length l
  holds-count {z} {n} {bs} {l} h = sym (length-blocks z n bs) ∙ ap length h.records-are ∙ length-map l (encode slots costs links)

-- ---- the trees of a yard

-- the entries of absent ceilings
abbrev pub absent : Network → List ℤ
absent net = replicate (ceilings_held - length (ranks net)) (pos 0)

-- a tree has a cost for each present ceiling
costs-length : (G : Graph) (i : ℕ) (js ts : List ℕ) → length (costs_from G i js ts) ≡ length js
costs-length G i [] ts = refl
costs-length G i (k ∷ js) ts = ap suc (costs-length G (suc i) js ts)

-- figures of a list, and behind its end zeros
padded-tabulate : (cs : List ℤ) (n : ℕ) → length cs ≤ n → tabulate (λ j. get_or cs j (pos 0)) n ≡ cs ++ replicate (n - length cs) (pos 0)
padded-tabulate [] n h = zeros n ∙ ap (λ (k : ℕ). replicate k (pos 0)) (sym (sub-zero n))
  where
    zeros : (n : ℕ) → tabulate (λ j. pos 0) n ≡ replicate n (pos 0)
    zeros zero = tabulate-none (λ j. pos 0)
    zeros (suc n) = tabulate-first (λ j. pos 0) n ∙ ap (λ (l : List ℤ). pos 0 ∷ l) (zeros n)
padded-tabulate (x ∷ cs) zero h = absurd (omega arith)
padded-tabulate (x ∷ cs) (suc n) h =
    let e : n - length cs ≡ suc n - suc (length cs) = omega arith in
    tabulate-first (λ j. get_or (x ∷ cs) j (pos 0)) n
    ∙ ap (λ (l : List ℤ). x ∷ l) (padded-tabulate cs n (omega arith) ∙ ap (λ (k : ℕ). cs ++ replicate k (pos 0)) e)

-- the ceiling costs of a tree, as a record has them, are its costs, and 0 where a ceiling is absent
pub costs-padded : (net : Network) (ts : List ℕ) → length (ranks net) ≤ ceilings_held → cost_values (costs_of net ts) ≡ vector (yard net) ts ++ absent net
costs-padded net ts h =
    let e = costs-length (graph net) 0 (ranks net) ts in
    ap (λ (l : List ℤ). tree_sum net ts ∷ l) (padded-tabulate (ceiling_costs net ts) ceilings_held (omega arith))
    ∙ ap (λ (k : ℕ). vector (yard net) ts ++ replicate (ceilings_held - k) (pos 0)) e

-- behind its present ceilings a tree has no costs
pub costs-absent : (net : Network) (ts : List ℕ) (j : ℕ) → length (ranks net) ≤ ceilings_held → length (ranks net) ≤ j
    → get_or (costs_of net ts).y j (pos 0) ≡ pos 0
costs-absent net ts j h k =
    let cs = ceiling_costs net ts in
    let e = costs-length (graph net) 0 (ranks net) ts in
    ap (λ (l : List ℤ). get_or l j (pos 0)) (padded-tabulate cs ceilings_held (omega arith)) ∙ behind cs (ceilings_held - length cs) j (omega arith)
  where
    zeros : (n j : ℕ) → get_or (replicate n (pos 0)) j (pos 0) ≡ pos 0
    zeros zero j = refl
    zeros (suc n) zero = refl
    zeros (suc n) (suc j) = zeros n j

    behind : (cs : List ℤ) (n j : ℕ) → length cs ≤ j → get_or (cs ++ replicate n (pos 0)) j (pos 0) ≡ pos 0
    behind [] n j h = zeros n j
    behind (x ∷ cs) n zero h = absurd (omega arith)
    behind (x ∷ cs) n (suc j) h = behind cs n j (omega arith)
