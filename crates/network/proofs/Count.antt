-- Yard records that say more than n, p, k1 and k2: with the right link count a survey is planned as the same survey without it, and with no station at rest
-- as the same survey without the bytes for them.
use Rattle.std.specs.Prelude.{ℕ, ◌/◌, ◌≡◌, refl, List, ◌++◌}
use Rattle.std.proofs.Math.Path.{sym}
use Rattle.std.proofs.Common.{ap, ◌∙◌, arith}
use Rattle.std.proofs.Math.ListN.{length}
use Rattle.std.proofs.Math.Seq.{get_or-append-add}
use store.Seg.{eqb_same}
use Rattle.network.specs.Survey.{layout_of, link_count, link_size, narrow_slots, network_of, plain, ranks_in, rest_in, row_where}
use Rattle.network.specs.Survey.{with_count, with_rest}
use Rattle.network.specs.Refusals.{bad_count, checked_of}
use Rattle.network.specs.Alike.{Alike}
use Rattle.network.specs.SameYard.{SameYard}
use Rattle.network.proofs.SameYard.{same_alike, same-checked, same-network}
use Rattle.network.specs.Count.{counted_yard, plain_yard, rested_yard, right_count}

module _ (n p k1 k2 : ℕ) (links : List ℕ) where
  -- the survey with the yard record of mark 59 44
  abbrev s : List ℕ
  s = plain_yard n p k1 k2 ++ links

  -- the one with that of mark 59 45 and a link count
  abbrev counted : ℕ → List ℕ
  counted count = counted_yard n p k1 k2 count ++ links

  -- the one with that of mark 59 46, the same count, and no bit set
  abbrev awake : ℕ → List ℕ
  awake count = rested_yard n p k1 k2 count 0 ++ links

  links-plain : link_count plain s ≡ right_count links
  links-plain = ap (λ (z : ℕ). z / link_size narrow_slots) (omega arith)

  -- with the right count
  count_same : SameYard s plain (counted (right_count links)) with_count
  unfolding layout_of row_where bad_count ranks_in rest_in
  count_same =
      record {
        layout = refl;
        layout' = refl;
        marked = refl;
        fewest = refl;
        slots = refl;
        stations = refl;
        ceilings = refl;
        ranks = refl;
        count = rw (links-plain, eqb_same (right_count links));
        rest = refl;
        form = refl;
        bytes = length links;
        size = omega arith;
        size' = omega arith;
        records =
            record {
              each = λ k.
                  get_or-append-add (counted_yard n p k1 k2 (right_count links)) links k 0 ∙ sym (get_or-append-add (plain_yard n p k1 k2) links k 0);
            };
      }

  -- THE THEOREM: a survey and the same survey with the right count get the same refusal or none,
  pub count-checked : checked_of (counted (right_count links)) ≡ checked_of s
  count-checked = same-checked count_same

  -- have the same network,
  pub count-network : network_of (counted (right_count links)) ≡ network_of s
  count-network = same-network count_same

  -- and get the same replies and leave the same
  pub count-alike : Alike s (counted (right_count links))
  count-alike = same_alike count_same

  -- with no station at rest, whatever the count
  rest-same : (count : ℕ) → SameYard (counted count) with_count (awake count) with_rest
  unfolding layout_of row_where bad_count ranks_in rest_in
  rest-same count =
      record {
        layout = refl;
        layout' = refl;
        marked = refl;
        fewest = refl;
        slots = refl;
        stations = refl;
        ceilings = refl;
        ranks = refl;
        count = refl;
        rest = refl;
        form = refl;
        bytes = length links;
        size = omega arith;
        size' = omega arith;
        records =
            record { each = λ k. get_or-append-add (rested_yard n p k1 k2 count 0) links k 0 ∙ sym (get_or-append-add (counted_yard n p k1 k2 count) links k 0) };
      }

  -- THE THEOREM: a survey with a link count and the same survey with no station at rest get the same refusal or none,
  pub rest-checked : (count : ℕ) → checked_of (awake count) ≡ checked_of (counted count)
  rest-checked count = same-checked (rest-same count)

  -- have the same network,
  pub rest-network : (count : ℕ) → network_of (awake count) ≡ network_of (counted count)
  rest-network count = same-network (rest-same count)

  -- and get the same replies and leave the same
  pub rest-alike : (count : ℕ) → Alike (counted count) (awake count)
  rest-alike count = same_alike (rest-same count)
