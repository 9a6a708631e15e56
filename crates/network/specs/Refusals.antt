-- Document 01, "When the planner declines": numbers 1 to 8, 15, 18 and 19, which a survey alone decides, in their order and with their
-- places.
use Rattle.std.specs.Prelude.{ℕ, ◌+◌, ◌-◌, ◌/◌, ◌%◌, ◌^◌, Bool, false, not, ◌&&◌, ◌||◌, List, [], ◌∷◌, ℤ, pos, drop, length, leb, ltb, eqb}
use Rattle.std.specs.Int.Signed.{lt_z}
use Rattle.order.specs.Lists.{any}
use Rattle.kmax.specs.Ceilings.{slack_of}
use Rattle.network.specs.Limits.{max_links, max_plans, max_rank, max_slack, max_stations, max_sum, min_sum}
use Rattle.network.specs.Bytes.{mark_at}
use Rattle.network.specs.Yard.{working}
use Rattle.network.specs.Survey.{ceilings_in, cost_bits, count_in, end_in, has_count, layout_of, link_count, link_start, network_with, ranks_in, rest_in}
use Rattle.network.specs.Survey.{stations_in, sum_in, working_in}
use Rattle.network.specs.Network.{Network}
use Rattle.network.specs.Walk.{position_count}
use Rattle.network.specs.Checked.{refuse_if, ◌or_else◌, first_refusal}
use Rattle.network.specs.Checked.{Checked}
use Rattle.network.specs.declared.Layout.{Layout}
use Rattle.network.specs.declared.refusals.Rule.TheVariants.{BadCeilings, BadCosts, BadEnds, BadLength, BadRanks, BadRest, BadStations, TooManyLinks, TooManyPositions, WrongLinkCount, WrongMark}

-- x is not from low to high
abbrev pub outside : ℕ → ℕ → ℕ → Bool
outside x low high = ltb x low || ltb high x

-- 1: under a yard record, or the rest no multiple of a link record
unfoldable pub bad_length : Layout → ℕ → Bool
bad_length l len = ltb len l.yard.size || not (eqb ((len - l.yard.size) % l.link.size) 0)

-- 15: the link count that is written, where the layout has one, is not m
unfoldable pub bad_count : List ℕ → Layout → ℕ → Bool
bad_count s l m = has_count l && not (eqb (count_in l s) m)

-- 18, of the bits of the stations at rest among n: one is set at or above n, or no station works
unfoldable pub bad_rest : ℕ → ℕ → Bool
bad_rest n rest = not (eqb (rest / 2 ^ n) 0) || eqb (length (working n rest)) 0

-- 5, of the number of ceilings: it is not from the fewest that the layout may have to the most that it has room for: above 2, or in the last layout not 3
abbrev pub bad_ceilings : Layout → ℕ → Bool
bad_ceilings l p = outside p l.fewest l.slots

-- 6, of a present k, with n working stations: it is not 1 to 3, or it is above t, so not below n
abbrev pub bad_present : ℕ → ℕ → Bool
bad_present n k = outside k 1 max_rank || leb n k

-- 6, of the k of ceiling j, from 0: a present one is against its rule, or an absent one is not 0
abbrev pub bad_rank : ℕ → ℕ → ℕ → ℕ → Bool
bad_rank n p j k = (ltb j p && bad_present n k) || (leb p j && not (eqb k 0))

-- 6, of the k of the ceilings j, j + 1, ..: one is against its rule
abbrev pub any_bad_rank : ℕ → ℕ → ℕ → List ℕ → Bool
any_bad_rank n p j [] = false
any_bad_rank n p j (k ∷ ks) = bad_rank n p j k || any_bad_rank n p (j + 1) ks

-- 6: a k against its rule, or all k, each less 1, add up to more than 2: a 3 beside a 2 or a 3, or three k of 2 (`slack_of` adds them up)
unfoldable pub bad_ranks : ℕ → ℕ → List ℕ → Bool
bad_ranks n p ks = any_bad_rank n p 0 ks || ltb max_slack (slack_of ks)

-- 7, of a link's two ends among n stations: one is not below n, or both are equal
abbrev pub bad_ends : ℕ → ℕ → ℕ → Bool
bad_ends n a b = leb n a || leb n b || eqb a b

-- 8, of the bits of a link's ceiling costs, with p ceilings: those of an absent one are not 0
unfoldable pub absent_costs : ℕ → List ℕ → Bool
absent_costs p bits = any (λ b. not (eqb b 0)) (drop p bits)

-- 8: s is not from -1,000,000 to 1,000,000
unfoldable pub bad_sum : ℤ → Bool
bad_sum s = lt_z s min_sum || lt_z (pos max_sum) s

-- 8, of a link's s and the bits of its ceiling costs, with p ceilings: s is outside its range, or an absent ceiling's cost is not 0
abbrev pub bad_costs : ℕ → ℤ → List ℕ → Bool
bad_costs p s bits = bad_sum s || absent_costs p bits

-- the yard record of a survey with m links: its mark, 3, 4, 15, 18, 5, 6, all at place 0
unfoldable pub yard_checked : List ℕ → Layout → ℕ → Checked
yard_checked s l m =
    refuse_if (not (mark_at s 0 l.yard.mark)) WrongMark 0
    or_else refuse_if (outside (stations_in s) 1 max_stations) BadStations 0
    or_else refuse_if (ltb max_links m) TooManyLinks 0
    or_else refuse_if (bad_count s l m) WrongLinkCount 0
    or_else refuse_if (bad_rest (stations_in s) (rest_in l s)) BadRest 0
    or_else refuse_if (bad_ceilings l (ceilings_in s)) BadCeilings 0
    or_else refuse_if (bad_ranks (length (working_in l s)) (ceilings_in s) (ranks_in l s)) BadRanks 0

-- the link record at an index, with room for so many costs, of a survey with n stations and p ceilings: its mark, 7, 8
unfoldable pub link_checked : List ℕ → ℕ → List ℕ → ℕ → ℕ → ℕ → ℕ → Checked
link_checked s at mark slots n p place =
    refuse_if (not (mark_at s at mark)) WrongMark place
    or_else refuse_if (bad_ends n (end_in s at 0) (end_in s at 1)) BadEnds place
    or_else refuse_if (bad_costs p (sum_in s at) (cost_bits slots s at)) BadCosts place

-- link i of a survey: its place is the link number plus 1
abbrev pub link_checked_at : List ℕ → Layout → ℕ → Checked
link_checked_at s l i = link_checked s (link_start l i) l.link.mark l.slots (stations_in s) (ceilings_in s) (i + 1)

-- the m link records, link by link from 0
abbrev pub links_checked : List ℕ → Layout → ℕ → Checked
links_checked s l m = first_refusal (link_checked_at s l) m

-- the records of a survey: 1, the yard record, then the links
unfoldable pub records_checked : Layout → List ℕ → Checked
records_checked l s =
    refuse_if (bad_length l (length s)) BadLength 0
    or_else (yard_checked s l (link_count l s) or_else links_checked s l (link_count l s))

-- 19, of a yard: M is above 1,600
unfoldable pub too_many_positions : Network → Bool
too_many_positions net = ltb max_plans (position_count net)

-- the whole survey: its records, then 19
unfoldable pub checked_with : Layout → List ℕ → Checked
checked_with l s = records_checked l s or_else refuse_if (too_many_positions (network_with l s (link_count l s))) TooManyPositions 0

-- a survey's first refusal; a survey is accepted if this is `no_refusal`
abbrev pub checked_of : List ℕ → Checked
checked_of s = checked_with (layout_of s) s
