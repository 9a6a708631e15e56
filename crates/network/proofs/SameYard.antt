-- Two surveys that say the same yard in different layouts, with the same link records behind the yard record, are planned alike.
use Prim.Native.Nat.{ℕ, zero, suc, ◌+◌, ◌-◌, ◌*◌, ◌/◌, ◌%◌}
use Rattle.std.specs.Prelude.{◌≡◌}
use Rattle.std.proofs.Math.Path.{refl, ap, ap₂}
use Rattle.std.proofs.Common.{◌∙◌, arith}
use Rattle.std.proofs.Math.Bool.{false}
use mathlib.Core.List.{List, ◌++◌}
use Rattle.std.proofs.Math.Dec.{ltb}
use Rattle.std.proofs.Math.ListN.{length, take}
use borrow.Author.Tests.{le-ltb}
use Rattle.network.specs.Moved.{Moved}
use Rattle.network.proofs.Moved.{moved-mark, moved_on, moved-u16, moved-u32}
use Rattle.network.proofs.Tabulate.{tabulate-same}
use Rattle.network.specs.Survey.{ceiling_in, ceilings_in, cost_bits, cost_in, costs_in, ends_in, link_count, link_start, network_of, network_with}
use Rattle.network.specs.Survey.{raised, sum_in, sums_in}
use Rattle.network.specs.Checked.{first_refusal, refuse_if, ◌or_else◌}
use Rattle.network.specs.Refusals.{bad_length, checked_of, checked_with, link_checked, link_checked_at, links_checked}
use Rattle.network.specs.Refusals.{records_checked, too_many_positions, yard_checked}
use Rattle.network.specs.Alike.{Alike}
use Rattle.network.proofs.Alike.{alike}
use Rattle.network.specs.Checked.{Checked}
use Rattle.network.specs.declared.Layout.{Layout}
use Rattle.network.specs.SameYard.{SameYard}
use Rattle.network.specs.declared.refusals.Rule.TheVariants.{BadLength, TooManyPositions}

-- the first refusal of the same checks
first-same : (f g : ℕ → Checked) → ((i : ℕ) → f i ≡ g i) → (m : ℕ) → first_refusal f m ≡ first_refusal g m
first-same f g e m = ap (λ (h : ℕ → Checked). first_refusal h m) (λ i q. e q i)

module _ {s : List ℕ} {l : Layout} {s' : List ℕ} {l' : Layout} (y : SameYard s l s' l') where
  -- link record i
  moved-link : (i : ℕ) → Moved s (link_start l i) s' (l'.yard.size + i * l.link.size)
  moved-link i = moved_on y.records (i * l.link.size)

  bits-same : (i : ℕ) → cost_bits l.slots s' (l'.yard.size + i * l.link.size) ≡ cost_bits l.slots s (link_start l i)
  unfolding cost_bits
  bits-same i = tabulate-same _ _ l.slots (λ j h. moved-u16 (moved_on (moved_on (moved-link i) 8) (2 * j)))

  link-same : (i : ℕ) → link_checked_at s' l' i ≡ link_checked_at s l i
  unfolding link_checked
  link-same i =
      let m = moved-link i in
      rw (y.form, y.slots, y.stations, y.ceilings, moved-mark m l.link.mark, (moved_on m 2).each 0, (moved_on m 2).each 1, moved-u32 (moved_on m 4))
      (rw (bits-same i))

  links-same : (m : ℕ) → links_checked s' l' m ≡ links_checked s l m
  links-same m = first-same (link_checked_at s' l') (link_checked_at s l) link-same m

  -- the yard records
  yard-same : yard_checked s' l' (link_count l s) ≡ yard_checked s l (link_count l s)
  unfolding yard_checked
  yard-same = rw (y.marked, y.stations, y.ceilings, y.ranks, y.count, y.rest, y.fewest, y.slots)

  ends_same : (m : ℕ) → ends_in l' s' m ≡ ends_in l s m
  unfolding ends_in
  ends_same m = tabulate-same _ _ (2 * m) (λ q h. rw y.form ((moved_on (moved-link (q / 2)) 2).each (q % 2)))

  sums_same : (m : ℕ) → sums_in l' s' m ≡ sums_in l s m
  unfolding sums_in
  sums_same m =
      tabulate-same (λ i. raised (sum_in s' (link_start l' i))) (λ i. raised (sum_in s (link_start l i))) m
      (λ i h. rw (y.form, moved-u32 (moved_on (moved-link i) 4)))

  ceiling-same : (m j : ℕ) → ceiling_in l' s' m j ≡ ceiling_in l s m j
  unfolding ceiling_in
  ceiling-same m j =
      tabulate-same (λ i. cost_in s' (link_start l' i) j) (λ i. cost_in s (link_start l i) j) m
      (λ i h. rw (y.form, moved-u16 (moved_on (moved_on (moved-link i) 8) (2 * j))))

  costs-same : (m p : ℕ) → costs_in l' s' m p ≡ costs_in l s m p
  unfolding costs_in
  costs-same m zero = refl
  costs-same m (suc p) = ap₂ ◌++◌ (costs-same m p) (ceiling-same m p)

  network-same : (m : ℕ) → network_with l' s' m ≡ network_with l s m
  unfolding network_with
  network-same m =
      let costs = costs-same m (ceilings_in s') ∙ ap (costs_in l s m) y.ceilings in
      λ i. record {
        n = y.stations i;
        p = y.ceilings i;
        k = take (y.ceilings i) (y.ranks i);
        rest = y.rest i;
        m = m;
        ends = ends_same m i;
        sums = sums_same m i;
        costs = costs i;
      }

  -- the links are as many
  count_same : link_count l' s' ≡ link_count l s
  count_same =
      let rest : length s' - l'.yard.size ≡ length s - l.yard.size = omega (arith, y.size, y.size') in
      rw (y.form, rest)

  length-same : bad_length l' (length s') ≡ bad_length l (length s)
  unfolding bad_length
  length-same =
      let rest : length s' - l'.yard.size ≡ length s - l.yard.size = omega (arith, y.size, y.size') in
      let room : ltb (length s) l.yard.size ≡ false = le-ltb (length s) l.yard.size (omega (arith, y.size)) in
      let room' : ltb (length s') l'.yard.size ≡ false = le-ltb (length s') l'.yard.size (omega (arith, y.size')) in
      rw (rest, room, room', y.form)

  -- THE THEOREM: they get the same refusal or none,
  pub same-checked : checked_of s' ≡ checked_of s
  unfolding checked_with records_checked
  same-checked =
      let yard : yard_checked s' l' (link_count l' s') ≡ yard_checked s l (link_count l s) = rw count_same yard-same in
      let link : links_checked s' l' (link_count l' s') ≡ links_checked s l (link_count l s) = rw count_same (links-same (link_count l s)) in
      let net : network_with l' s' (link_count l' s') ≡ network_with l s (link_count l s) = rw count_same (network-same (link_count l s)) in
      rw (y.layout, y.layout')
      (λ i. refuse_if (length-same i) BadLength 0 or_else (yard i or_else link i) or_else refuse_if (too_many_positions (net i)) TooManyPositions 0)

  -- and have the same network,
  pub same-network : network_of s' ≡ network_of s
  same-network = rw (y.layout, y.layout', count_same) (network-same (link_count l s))

  -- so that judge, best and list reply the same and leave the same
  pub same_alike : Alike s s'
  same_alike = alike same-checked same-network
