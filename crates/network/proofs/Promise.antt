-- What the user relies on: that the list of an accepted survey is complete (demand 3), and that a plan fetched from it is the plan listed there.
-- The list call's contract has `Promised`, those of fetching `NumberKept` and `LinksKept`.
use Rattle.std.specs.Prelude.{true, List, [], ◌∷◌, ◌↔◌, ◌≡◌, refl, ℕ, ℤ}
use mathlib.Core.List.Memᴰ
use mathlib.Core.List.Memᴰ.{head as here}
use Rattle.std.proofs.Common.{arith, le-ltb}
use Rattle.std.proofs.lemmas.Bool.{not-true}
use Rattle.order.specs.Lists.{◌∈◌, any}
use Rattle.order.proofs.Lists.{any_none, none_any}
use Rattle.order.specs.Order.{dictionary, orderℕ, orderℤ}
use Rattle.order.proofs.Order.{≡→equal}
use Rattle.order.proofs.Sorted.{first-lowest}
use Rattle.frontier.specs.Frontier.{attains, nondominated}
use Rattle.frontier.proofs.Walk.{positions-length, solved-length}
use Rattle.frontier.proofs.Listed.{listed-empty, listed-feasible, listed-first, listed-rising, listed-vectors}
use Rattle.planning.specs.Graph.{Sound}
use Rattle.planning.proofs.Grid as grid
use Rattle.network.specs.Limits.{max_plans}
use Rattle.network.specs.Yard.{Tree, dominates, graph, trees, vector, yard}
use Rattle.network.specs.Walk.{solved_count, values}
use Rattle.network.specs.Survey.{network_of}
use Rattle.network.specs.PlanList.{buffer_need, max_need}
use Rattle.network.specs.Checked.{refuse_if, ◌or_else◌}
use Rattle.network.specs.Refusals.{checked_of}
use Rattle.network.specs.Calls.{list_checked, plans_checked, room_checked}
use Rattle.network.proofs.Meaning.{trees-iff, trees-rising}
use Rattle.network.proofs.NetworkFine.{need-limit, survey-limits, survey-sound}
use Rattle.network.specs.Checked.{Checked}
use Rattle.std.specs.Prelude.{Ok, Err}
use Rattle.network.specs.Network.{Network}
use Rattle.network.specs.Promise.{Attained, Complete, Undominated}

module _ (net : Network) (sound : Sound (graph net)) where
  undominated-iff : (v : List ℤ) → (nondominated (yard net) v ≡ true) ↔ Undominated net v
  undominated-iff v = (
    λ e ts t.
        let none = not-true (any (λ us. dominates (vector net us) v) (trees net)) e in
        any_none (λ us. dominates (vector net us) v) (trees net) none ((trees-iff net sound ts).1 t),
    λ h. rw (none_any (λ us. dominates (vector net us) v) (trees net) (λ us m. h us ((trees-iff net sound us).0 m))),
  )

  attained-iff : (v : List ℤ) → ((ts : List ℕ) × (ts ∈ trees net) × (vector net ts ≡ v)) ↔ Attained net v
  attained-iff v = (
    λ w. (w.0, (trees-iff net sound w.0).0 w.1, w.2),
    λ w. (w.0, (trees-iff net sound w.0).1 w.1, w.2),
  )

  no-trees : (trees net ≡ []) ↔ ((ts : List ℕ) → Tree net ts → ⊥)
  no-trees = (λ e ts t. Memᴰ.not-nil (rw e at ((trees-iff net sound ts).1 t)), λ h. go (trees net) (λ ts m. h ts ((trees-iff net sound ts).0 m)))
    where
      go : (l : List (List ℕ)) → ((ts : List ℕ) → ts ∈ l → ⊥) → l ≡ []
      go [] h = refl
      go (x ∷ l) h = absurd (h x (here refl))

  pub complete : Complete net
  complete =
      record {
        exactly = λ v.
            let e = listed-vectors (yard net) v in (
              λ w. let r = e.0 w in ((attained-iff v).0 r.0, (undominated-iff v).0 r.1),
              λ w. e.1 ((attained-iff v).1 w.0, (undominated-iff v).1 w.1),
            );
        rising = listed-rising (yard net);
        only-trees = λ ts m. (trees-iff net sound ts).0 (listed-feasible (yard net) m);
        firsts = λ ts us m t e.
            first-lowest (dictionary orderℕ) (λ xs. xs) (attains (yard net) (vector net ts)) ts (trees net) (trees-rising net sound) (listed-first (yard net) m)
            us ((trees-iff net sound us).1 t) (≡→equal (dictionary orderℤ) (vector net us) (vector net ts) e);
        empty = (λ e. no-trees.0 ((listed-empty (yard net)).0 e), λ h. (listed-empty (yard net)).1 (no-trees.1 h));
        by-walk = grid.walk-lists (graph net) sound;
        count = omega (arith, solved-length (yard net), positions-length (values net));
      }

-- ---- the program

-- with the most bytes that a list needs and all positions allowed, the list call declines only what a survey alone decides: never by 9 or 10
pub program-checked : (s : List ℕ) → list_checked s max_plans max_need ≡ checked_of s
unfolding list_checked plans_checked room_checked refuse_if ◌or_else◌
program-checked s = go (checked_of s) refl
  where
    go : (c : Checked) → checked_of s ≡ c → c or_else plans_checked (network_of s) max_plans max_need ≡ c
    go (Err r) e = refl
    go (Ok u) e =
        let fine = survey-limits s e in
        let few = (complete (network_of s) (survey-sound s e)).count in
        let room = le-ltb max_need (buffer_need (network_of s)) (need-limit (network_of s) fine) in
        let within = le-ltb max_plans (solved_count (network_of s)) (omega (arith, fine.positions)) in
        rw (room, within)
