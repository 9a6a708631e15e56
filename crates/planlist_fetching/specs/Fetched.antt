-- Fetching from a list: what the code learns from its tests, and that every plan of a written list is found.
use Rattle.std.specs.Prelude.{true, false, cond, ◌||◌, ◌≡◌, ℕ, suc, ◌+◌, ◌*◌, ◌≤◌, ◌<◌, ltb, pos, drop, length, take}
use Rattle.std.proofs.Math.Bool.{not}
use mathlib.Core.List.{List, [], ◌++◌, map, append_assoc}
use Rattle.std.proofs.Math.Path.{sym, ap}
use Rattle.std.proofs.Common.{◌∙◌, add-zero, arith, drop_at, drop-drop, get_or-drop}
use borrow.Author.Tests.{ltb-false, ltb-true, le-ltb, ne_eqb}
use Rattle.std.proofs.Math.ListN.{get_or, length-append, length-map, get_or-append, get_or-eq_default}
use Rattle.std.proofs.Math.Seq.{take_at}
use Rattle.std.specs.Int.{w32}
use store.Seg.{eqb_same}
use Rattle.order.specs.Test.{by-test}
use Rattle.order.specs.Lists.{◌∈◌}
use Rattle.order.proofs.Lists.{get_or_map, get_or-mem, map-mem}
use Rattle.network.specs.Capacities.{ceilings_held}
use Rattle.network.specs.Limits.{max_ceilings, max_plans, max_tree}
use Rattle.network.specs.Bytes.{bits_of, byte_at, little_endian, mark_at}
use Rattle.network.proofs.Tabulate.{tabulate-length}
use Rattle.network.specs.PlanList.{ceiling_bytes, costs_at, costs_of, head_bytes, head_mark, head_size, join, list_bytes}
use Rattle.network.specs.PlanList.{plan_bytes, plan_mark, plan_size, plan_slots, record_of}
use Rattle.network.specs.Yard.{ceiling_costs, tree_size}
use Rattle.network.specs.Walk.{plans, solved_count}
use Rattle.network.proofs.NetworkFine.{slots-few}
use Rattle.network.specs.Fetching.{head_count, damaged, fetch_links, fetch_number, fetch_start, head_slots, links_start, plan_start, head_tree_size}
use Rattle.network.specs.declared.Costs.{Costs}
use Rattle.network.specs.Network.{Network}
use Rattle.encoding.specs.RoundTrip.{u16-bytes}
use Rattle.encoding.specs.Blocks.{Sized, join-at, length-join}
use Rattle.planlist_records.specs.Held.{Writable, costs-block, costs-encoded}
use Rattle.planlist_records.specs.Records.{encode, length-mark, length-plan}
use Rattle.planlist_fetching.specs.Found.{number-marked, number-none}

-- ---- the links, by the tests that lead to them

module _ (list : List ℕ) (r : ℕ) where
  -- the links of a plan that is found, and of one that is not
  pub links-found : fetch_number list r ≡ 0 → fetch_links list r ≡ take (head_tree_size list) (drop (links_start list r) list)
  unfolding fetch_links
  links-found e = rw e

  pub links-none : (fetch_number list r ≡ 0 → ⊥) → fetch_links list r ≡ []
  unfolding fetch_links
  links-none e = rw (ne_eqb (fetch_number list r) 0 e)

  -- and where they start
  pub start-found : fetch_number list r ≡ 0 → fetch_start list r ≡ links_start list r
  unfolding fetch_start
  start-found e = rw e

  pub start_none : (fetch_number list r ≡ 0 → ⊥) → fetch_start list r ≡ 0
  unfolding fetch_start
  start_none e = rw (ne_eqb (fetch_number list r) 0 e)

-- ---- a written list

-- a mark that bytes begin with is found where they stand
mark-there : (bs mark rest : List ℕ) (at : ℕ) → length mark ≡ 2 → drop at bs ≡ mark ++ rest → mark_at bs at mark ≡ true
mark-there bs mark rest at two e =
    let byte : (j : ℕ) → j < 2 → byte_at bs (at + j) ≡ byte_at mark j =
    λ j h. sym (get_or-drop at bs j 0) ∙ ap (λ (l : List ℕ). byte_at l j) e ∙ get_or-append mark rest 0 j (omega arith) in
    let first = ap (byte_at bs) (sym (add-zero at)) ∙ byte 0 (omega arith) in
    rw (first, byte 1 (omega arith), eqb_same (byte_at mark 0), eqb_same (byte_at mark 1))

-- the links stand behind the mark and the costs
links-behind : (slots : ℕ) (v : Costs) (links rest : List ℕ) → slots ≤ length v.y → drop (plan_size slots 0) (plan_bytes slots v links ++ rest) ≡ links ++ rest
links-behind slots v links rest h =
    let mark = plan_mark slots in
    let sum = little_endian 4 (bits_of w32 v.sum) in
    let ys = ceiling_bytes (take slots v.y) in
    let front = plan_bytes slots v [] in
    let parts : plan_bytes slots v links ≡ front ++ links =
    sym (append_assoc mark (sum ++ (ys ++ [])) links ∙ ap (λ (l : List ℕ). mark ++ (sum ++ l)) (append_assoc ys [] links)) in
    ap (λ (l : List ℕ). drop (plan_size slots 0) (l ++ rest)) parts
    ∙ ap (drop (plan_size slots 0)) (append_assoc front links rest)
    ∙ drop_at front (links ++ rest) (plan_size slots 0) (length-plan slots v [] h)

-- the bytes of a list of plans, followed by any others
abbrev pub listed : {S : Type 0} → (S → Costs) → (S → List ℕ) → ℕ → ℕ → ℕ → List S → List ℕ → List ℕ
listed costs links solved t p plans rest = head_bytes (length plans) solved t p ++ (join (map (encode (plan_slots p) costs links) plans) ++ rest)

-- of plans with t links each, within the limits, and with as many ceiling costs as a record has room for
module _ {S : Type 0} (costs : S → Costs) (links : S → List ℕ) (solved t p : ℕ) (plans : List S) (rest : List ℕ)
    (full : (s : S) → s ∈ plans → length (links s) ≡ t) (enough : (s : S) → plan_slots p ≤ length (costs s).y)
    (few : length plans ≤ max_plans) (short : t ≤ max_tree) (flat : p ≤ max_ceilings) where
  -- the list
  bytes : List ℕ
  bytes = listed costs links solved t p plans rest

  -- its records
  abbrev plan : S → List ℕ
  plan = encode (plan_slots p) costs links

  -- which have one size
  abbrev size : ℕ
  size = plan_size (plan_slots p) t

  sized : Sized size (map plan plans)
  sized b m =
      let w = map-mem plan plans b m in
      ap length w.2 ∙ length-plan (plan_slots p) (costs w.0) (links w.0) (enough w.0) ∙ ap (plan_size (plan_slots p)) (full w.0 w.1)

  -- its head has the number of plans
  count : head_count bytes ≡ length plans
  unfolding bytes
  count = u16-bytes (length plans) (omega arith)

  -- it is not damaged
  undamaged : damaged (listed costs links solved t p plans rest) ≡ false
  unfolding bytes damaged
  undamaged =
      let c = count in
      let len = length-append (join (map plan plans)) rest in
      let all = length-join size (map plan plans) sized in
      let same = ap (λ (k : ℕ). k * size) (length-map plans plan) in
      let need = ap (λ (k : ℕ). k * size) count in
      let a = le-ltb (length bytes) head_size (omega arith) in
      let b = le-ltb max_plans (head_count bytes) (omega arith) in
      let e = le-ltb (length bytes) (plan_start bytes (head_count bytes)) (omega arith) in
      λ i. a i || not (mark_at bytes 0 head_mark) || b i || le-ltb max_tree t short i || le-ltb max_ceilings p flat i || e i

  module _ (r : ℕ) (below : r < length plans) (d : S) where
    -- the bytes after plan r's record
    later : List ℕ
    later = join (drop (suc r) (map plan plans)) ++ rest

    -- plan r's record stands where it is looked for
    record-at : drop (head_size + r * size) bytes ≡ plan (get_or plans r d) ++ later
    unfolding bytes later
    record-at =
        sym (drop-drop (r * size) head_size bytes)
        ∙ join-at size (map plan plans) rest sized r (rw length-map below)
        ∙ ap (λ (b : List ℕ). b ++ later) (get_or_map plan plans r d [] below)

    -- plan r is found
    fetched : fetch_number (listed costs links solved t p plans rest) r ≡ 0
    unfolding bytes
    fetched =
        let mark = plan_mark (plan_slots p) in
        let c = count in
        let there = mark-there bytes mark _ (head_size + r * size) (length-mark (plan_slots p)) (record-at ∙ append_assoc mark _ later) in
        number-marked bytes r undamaged (omega arith) {b = true} there

    -- with its own links
    fetched-links : fetch_links (listed costs links solved t p plans rest) r ≡ links (get_or plans r d)
    unfolding bytes
    fetched-links =
        let s = get_or plans r d in
        let front = plan_size (plan_slots p) 0 in
        links-found bytes r fetched
        ∙ ap (take t) (sym (drop-drop front (head_size + r * size) bytes) ∙ ap (drop front) record-at
        ∙ links-behind (plan_slots p) (costs s) (links s) later (enough s))
        ∙ take_at (links s) later t (full s (get_or-mem plans r d below))

    -- and its own costs
    fetched-costs : Writable (plan_slots p) (costs (get_or plans r d))
        → costs_at (plan_slots p) (listed costs links solved t p plans rest) (head_size + r * size) ≡ costs (get_or plans r d)
    unfolding bytes
    fetched-costs w =
        let s = get_or plans r d in
        let own = length-plan (plan_slots p) (costs s) (links s) (enough s) ∙ ap (plan_size (plan_slots p)) (full s (get_or-mem plans r d below)) in
        sym (costs-block bytes (head_size + r * size) size (plan_slots p) (omega arith))
        ∙ ap (λ (b : List ℕ). costs_at (plan_slots p) b 0) (ap (take size) record-at ∙ take_at (plan s) later size own)
        ∙ costs-encoded (plan_slots p) (costs s) (links s) w

  -- past the last plan
  past : (r : ℕ) → length plans ≤ r → fetch_number (listed costs links solved t p plans rest) r ≡ 13
  unfolding bytes
  past r h = let c = count in number-none bytes r undamaged (omega arith)

-- ---- the list of a yard, with whatever follows it

module _ (net : Network) (rest : List ℕ) (full : (ts : List ℕ) → ts ∈ plans net → length ts ≡ tree_size net) (few : length (plans net) ≤ max_plans)
    (short : tree_size net ≤ max_tree) (flat : net.p ≤ max_ceilings) (r : ℕ) where
  abbrev parts : List ℕ
  parts = listed (costs_of net) (λ ts. ts) (solved_count net) (tree_size net) net.p (plans net) rest

  in_parts : list_bytes net ++ rest ≡ parts
  in_parts = append_assoc (head_bytes (length (plans net)) (solved_count net) (tree_size net) net.p) (join (map (record_of net) (plans net))) rest

  -- the costs of a tree have every ceiling that a record has room for
  enough : (ts : List ℕ) → plan_slots net.p ≤ length (costs_of net ts).y
  enough ts = omega (arith, slots-few net.p, tabulate-length (λ j. get_or (ceiling_costs net ts) j (pos 0)) ceilings_held)

  within : r < length (plans net) → (fetch_number parts r ≡ 0) × (fetch_links parts r ≡ get_or (plans net) r [])
  within h = (
    fetched (costs_of net) (λ ts. ts) (solved_count net) (tree_size net) net.p (plans net) rest full enough few short flat r h [],
    fetched-links (costs_of net) (λ ts. ts) (solved_count net) (tree_size net) net.p (plans net) rest full enough few short flat r h [],
  )

  -- its costs are read back where its record can hold them
  pub listed-costs : r < length (plans net) → Writable (plan_slots net.p) (costs_of net (get_or (plans net) r []))
      → costs_at (head_slots (list_bytes net ++ rest)) (list_bytes net ++ rest) (plan_start (list_bytes net ++ rest) r) ≡ costs_of net (get_or (plans net) r [])
  listed-costs h w =
      ap (λ (l : List ℕ). costs_at (head_slots l) l (plan_start l r)) in_parts
      ∙ fetched-costs (costs_of net) (λ ts. ts) (solved_count net) (tree_size net) net.p (plans net) rest full enough few short flat r h [] w

  beyond : length (plans net) ≤ r → fetch_number parts r ≡ 13
  beyond h = past (costs_of net) (λ ts. ts) (solved_count net) (tree_size net) net.p (plans net) rest full enough few short flat r h

  -- its head counts the plans
  pub listed-count : head_count (list_bytes net ++ rest) ≡ length (plans net)
  unfolding bytes
  listed-count =
      ap head_count in_parts ∙ count (costs_of net) (λ ts. ts) (solved_count net) (tree_size net) net.p (plans net) rest full enough few short flat

  -- every plan of it is found, and none past the last
  pub listed-number : fetch_number (list_bytes net ++ rest) r ≡ cond (ltb r (length (plans net))) 0 13
  listed-number =
      ap (λ (l : List ℕ). fetch_number l r) in_parts
      ∙ by-test (ltb r (length (plans net)))
      (λ e. rw e (within (ltb-true r (length (plans net)) e)).0)
      (λ e. rw e (beyond (ltb-false r (length (plans net)) e)))

  -- with its own links
  pub listed-links : fetch_links (list_bytes net ++ rest) r ≡ get_or (plans net) r []
  listed-links =
      ap (λ (l : List ℕ). fetch_links l r) in_parts
      ∙ by-test (ltb r (length (plans net)))
      (λ e. (within (ltb-true r (length (plans net)) e)).1)
      (λ e.
      let h = ltb-false r (length (plans net)) e in
      let n = beyond h in
      links-none parts r (λ z. absurd (omega arith)) ∙ sym (get_or-eq_default (plans net) [] h))
