-- What the planner plans of a survey of a kind that is written is what its figures say: surveys that say the same figures are planned alike, whichever of
-- these kinds their yard records are.
use mathlib.Core.List.{List, [], ◌∷◌, ◌++◌}
use Rattle.std.specs.Prelude.{◌≡◌, ℤ, pos, length}
use Rattle.std.proofs.Math.Path.{refl, sym, ap, ap₂}
use Rattle.std.proofs.Common.{◌∙◌, arith}
use Prim.Native.Nat.{ℕ, zero, suc, ◌*◌, ◌/◌, ◌%◌, ◌≤◌, ◌<◌}
use Rattle.std.proofs.Math.Nat.{zero-add}
use Rattle.std.proofs.Math.ListN.{get_or, length-map, take}
use Rattle.order.specs.Lists.{numbers_from}
use Rattle.order.proofs.Lists.{get_or_map}
use Rattle.order.proofs.Sorted.{number_at, numbers-length}
use Rattle.network.specs.Tabulate.{tabulate}
use Rattle.network.proofs.Tabulate.{tabulate-at, tabulate-same}
use Rattle.network.specs.Survey.{ceiling_in, ceilings_in, cost_in, costs_in, end_in, ends_in, layout_of, link_count, link_start, narrow_slots, network_of}
use Rattle.network.specs.Survey.{network_with, raised, ranks_in, sums_in}
use Rattle.network.specs.Accepted.{RecordsFine}
use Rattle.network.proofs.Accepted.{accepted-records}
use Rattle.network.specs.Alike.{Alike}
use Rattle.network.proofs.Alike.{alike}
use Rattle.network.specs.Writing.{Figures, Link, figures_in, link_in, no_link}
use Rattle.network.specs.WritingPromise.{Known, Says}
use Rattle.network.specs.declared.Layout.{Layout}
use Rattle.network.specs.Network.{Network}
use Rattle.survey_roundtrip.specs.Layouts.{Writable, kind-listed, layout-known, none-at-rest, writable-for}
use Rattle.survey_roundtrip.specs.Fields.{ranks-are}

-- end j of a link
abbrev end_at : Link → ℕ → ℕ
end_at x j = get_or (x.first ∷ x.second ∷ []) j 0

-- its cost by ceiling j
abbrev cost_at : Link → ℕ → ℤ
cost_at x j = get_or (x.c1 ∷ x.c2 ∷ []) j (pos 0)

-- link i of figures
abbrev link_of : Figures → ℕ → Link
link_of f i = get_or f.links i no_link

-- the costs of the first m links by the first p ceilings, one ceiling after the other
unfoldable pub costs_with : Figures → ℕ → ℕ → List ℤ
costs_with f m zero = []
costs_with f m (suc p) = costs_with f m p ++ tabulate (λ i. cost_at (link_of f i) p) m

-- the network of figures and of their first m links
abbrev network_on : Figures → ℕ → Network
network_on f m =
    record {
      n = f.yard.n;
      p = f.yard.p;
      k = take f.yard.p (f.yard.k1 ∷ f.yard.k2 ∷ []);
      rest = 0;
      m = m;
      ends = tabulate (λ q. end_at (link_of f (q / 2)) (q % 2)) (2 * m);
      sums = tabulate (λ i. raised (link_of f i).sum) m;
      costs = costs_with f m f.yard.p;
    }

-- the network of figures
unfoldable pub network_from : Figures → Network
network_from f = network_on f (length f.links)

module _ (l : Layout) (s : List ℕ) where
  abbrev m : ℕ
  m = link_count l s

  abbrev f : Figures
  f = figures_in l s

  -- its figures have as many links as link records
  pub figures-many : length f.links ≡ m
  unfolding figures_in
  figures-many = length-map (numbers_from m 0) (λ i. link_in s (link_start l i)) ∙ numbers-length m 0

  -- and these are those of the records
  pub figures-link : (i : ℕ) → i < m → link_of f i ≡ link_in s (link_start l i)
  unfolding figures_in
  figures-link i h =
      let size = numbers-length m 0 in
      get_or_map (λ j. link_in s (link_start l j)) (numbers_from m 0) i 0 no_link (omega arith)
      ∙ ap (λ (j : ℕ). link_in s (link_start l j)) (number_at m 0 i h ∙ zero-add i)

  ends_same : ends_in l s m ≡ tabulate (λ q. end_at (link_of f (q / 2)) (q % 2)) (2 * m)
  unfolding ends_in tabulate
  ends_same =
      tabulate-same _ _ (2 * m) (λ q h.
      sym (tabulate-at (end_in s (link_start l (q / 2))) 2 (q % 2) (omega arith) 0)
      ∙ ap (λ (x : Link). end_at x (q % 2)) (sym (figures-link (q / 2) (omega arith))))

  sums_same : sums_in l s m ≡ tabulate (λ i. raised (link_of f i).sum) m
  unfolding sums_in
  sums_same = tabulate-same _ _ m (λ i h. ap (λ (x : Link). raised x.sum) (sym (figures-link i h)))

  ceiling-same : (j : ℕ) → j < narrow_slots → ceiling_in l s m j ≡ tabulate (λ i. cost_at (link_of f i) j) m
  unfolding ceiling_in tabulate
  ceiling-same j h =
      tabulate-same _ _ m (λ i g.
      sym (tabulate-at (cost_in s (link_start l i)) narrow_slots j h (pos 0))
      ∙ ap (λ (x : Link). cost_at x j) (sym (figures-link i g)))

  costs-same : (p : ℕ) → p ≤ narrow_slots → costs_in l s m p ≡ costs_with f m p
  unfolding costs_in costs_with
  costs-same zero h = refl
  costs-same (suc p) h = ap₂ ◌++◌ (costs-same p (omega arith)) (ceiling-same p (omega arith))

  network-figures : Writable l → RecordsFine s l → network_with l s m ≡ network_from f
  unfolding network_with network_from figures_in
  network-figures w fine =
      let two = ranks-are l w s (omega (arith, fine.records.size)) in
      let all : ranks_in l s ≡ f.yard.k1 ∷ f.yard.k2 ∷ [] = two ∙ sym (ap (λ (k : List ℕ). get_or k 0 0 ∷ get_or k 1 0 ∷ []) two) in
      (λ i.
      record {
        n = f.yard.n;
        p = f.yard.p;
        k = take f.yard.p (all i);
        rest = none-at-rest l w s i;
        m = m;
        ends = ends_same i;
        sums = sums_same i;
        costs = costs-same (ceilings_in s) (omega (arith, fine.yard.few-ceilings, w.slots)) i;
      })
      ∙ ap (network_on f) (sym figures-many)

-- the network of a survey of a kind that is written is that of its figures
pub figures-network : (s : List ℕ) (kind : ℕ) (f : Figures) → Says s kind f → Known kind → network_of s ≡ network_from f
figures-network s kind f says known =
    let l = layout_of s in
    let written : Writable l = rw (← (layout-known s kind says.kept (kind-listed kind known))) (writable-for kind) in
    network-figures l s written (accepted-records s says.accepted) ∙ ap network_from says.read

-- THE THEOREM: surveys of kinds that are written that say the same figures are planned alike
pub figures-alike : (s t : List ℕ) (kind kind' : ℕ) (f : Figures) → Says s kind f → Says t kind' f → Known kind → Known kind' → Alike s t
figures-alike s t kind kind' f a b known known' =
    alike (b.accepted ∙ sym a.accepted) (figures-network t kind' f b known' ∙ sym (figures-network s kind f a known))
