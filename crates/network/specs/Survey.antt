-- Document 01, "Bytes": the survey, which is one yard record and then link records only, and the network that its bytes say.
use Rattle.std.specs.Prelude.{Some, None, is_some, unwrap_or, Bool, cond, List, [], ◌∷◌, ◌++◌, ℕ, zero, suc, ◌+◌, ◌-◌, ◌*◌, ◌/◌, ◌%◌, ℤ, negsuc, pos, drop, length, take}
use Rattle.std.specs.Int.{w16}
use Rattle.network.specs.Capacities.{raise}
use Rattle.network.specs.Bytes.{byte_at, i32_at, mark_at, signed, u16_at, u24_at}
use Rattle.network.specs.Tabulate.{tabulate}
use Rattle.network.specs.Network.{Network}
use Rattle.network.specs.Yard.{working}
use Rattle.network.specs.declared.Form.{Form}
use Rattle.network.specs.declared.Layout.{Layout}

-- how many ceilings the records of document 01 have room for, absent ones included
abbrev pub narrow_slots : ℕ
narrow_slots = 2

-- how many those that go with mark 59 47 have room for
abbrev pub wide_slots : ℕ
wide_slots = 3

-- where the ranks stand in a yard record: behind mark, n and p
abbrev pub ranks_at : ℕ
ranks_at = 4

-- the bytes that each yard record has: mark, n, p, and a k for each ceiling that there is room for
abbrev pub yard_size : ℕ → ℕ
yard_size slots = ranks_at + slots

-- the bytes that say which stations rest, where a yard record has them
abbrev pub rest_size : ℕ
rest_size = 3

-- the bytes of a link record: mark, two stations, s, and a cost for each ceiling that there is room for
abbrev pub link_size : ℕ → ℕ
link_size slots = 8 + 2 * slots

-- ---- the layouts

-- the link record with mark 4C 4B, of 12 bytes
abbrev pub narrow_link : Form
narrow_link = record { mark = 0x4C ∷ 0x4B ∷ []; size = link_size narrow_slots }

-- the one with mark 4C 4D, of 14 bytes
abbrev pub wide_link : Form
wide_link = record { mark = 0x4C ∷ 0x4D ∷ []; size = link_size wide_slots }

-- surveys whose yard record is that of document 01, with mark 59 44, of 6 bytes: up to two ceilings
abbrev pub plain : Layout
plain =
    record {
      yard = record { mark = 0x59 ∷ 0x44 ∷ []; size = yard_size narrow_slots };
      fewest = 0;
      slots = narrow_slots;
      count = None;
      rest = None;
      link = narrow_link;
    }

-- surveys whose yard record has mark 59 45 and the link count behind the other fields, 7 bytes
abbrev pub with_count : Layout
with_count =
    record {
      yard = record { mark = 0x59 ∷ 0x45 ∷ []; size = yard_size narrow_slots + 1 };
      fewest = 0;
      slots = narrow_slots;
      count = Some (yard_size narrow_slots);
      rest = None;
      link = narrow_link;
    }

-- surveys whose yard record has mark 59 46, and the stations at rest behind the link count, 10 bytes
abbrev pub with_rest : Layout
with_rest =
    record {
      yard = record { mark = 0x59 ∷ 0x46 ∷ []; size = yard_size narrow_slots + 1 + rest_size };
      fewest = 0;
      slots = narrow_slots;
      count = Some (yard_size narrow_slots);
      rest = Some (yard_size narrow_slots + 1);
      link = narrow_link;
    }

-- surveys whose yard record has mark 59 47 and the same fields with k3 behind k2, 11 bytes: just three ceilings
abbrev pub triple : Layout
triple =
    record {
      yard = record { mark = 0x59 ∷ 0x47 ∷ []; size = yard_size wide_slots + 1 + rest_size };
      fewest = wide_slots;
      slots = wide_slots;
      count = Some (yard_size wide_slots);
      rest = Some (yard_size wide_slots + 1);
      link = wide_link;
    }

-- the layouts that are known: a row for each mark of a yard record
abbrev pub layouts : List Layout
layouts = plain ∷ with_count ∷ with_rest ∷ triple ∷ []

-- the first row of a table that passes a test; where none does, the old layout
unfoldable pub row_where : (Layout → Bool) → List Layout → Layout
row_where p [] = plain
row_where p (l ∷ ls) = cond (p l) l (row_where p ls)

-- the layout's mark of a yard record opens the survey
abbrev pub opens : List ℕ → Layout → Bool
opens s l = mark_at s 0 l.yard.mark

-- the layout of a survey: its first two bytes say which; where no mark is known there, the old lengths hold
unfoldable pub layout_of : List ℕ → Layout
layout_of s = row_where (opens s) layouts

-- the yard record has a link count
abbrev pub has_count : Layout → Bool
has_count l = is_some l.count

-- where it has it; 0 stands for a place where it has none
abbrev pub count_at : Layout → ℕ
count_at l = unwrap_or l.count 0

-- the yard record says which stations rest
abbrev pub has_rest : Layout → Bool
has_rest l = is_some l.rest

-- where it says so; 0 stands for a place where it does not
abbrev pub rest_at : Layout → ℕ
rest_at l = unwrap_or l.rest 0

-- how many link records follow the yard record
abbrev pub link_count : Layout → List ℕ → ℕ
link_count l s = (length s - l.yard.size) / l.link.size

-- where link record i starts
abbrev pub link_start : Layout → ℕ → ℕ
link_start l i = l.yard.size + i * l.link.size

-- ---- the fields of the yard record: mark, n, p, the k of the ceilings, and in some layouts the link count and the stations at rest

-- n, the number of stations
abbrev pub stations_in : List ℕ → ℕ
stations_in s = byte_at s 2

-- p, the number of ceilings
abbrev pub ceilings_in : List ℕ → ℕ
ceilings_in s = byte_at s 3

-- k1, k2, ..: a byte for each ceiling that the layout has room for
unfoldable pub ranks_in : Layout → List ℕ → List ℕ
ranks_in l s = take l.slots (drop ranks_at s)

-- the link count as it is written
abbrev pub count_in : Layout → List ℕ → ℕ
count_in l s = byte_at s (count_at l)

-- the stations at rest, of 24 bits, low bit of the first byte first: bit j is set where station j rests, and no bit is where the layout has none
unfoldable pub rest_in : Layout → List ℕ → ℕ
rest_in l s = cond (has_rest l) (u24_at s (rest_at l)) 0

-- the working stations
abbrev pub working_in : Layout → List ℕ → List ℕ
working_in l s = working (stations_in s) (rest_in l s)

-- ---- the fields of a link record that starts at an index: mark, two stations, s, the costs by the ceilings

-- its end j, from 0
abbrev pub end_in : List ℕ → ℕ → ℕ → ℕ
end_in s at j = byte_at s (at + 2 + j)

-- s, its sum cost
abbrev pub sum_in : List ℕ → ℕ → ℤ
sum_in s at = i32_at s (at + 4)

-- the sixteen bits of its cost by ceiling j, from 0
abbrev pub cost_bits_in : List ℕ → ℕ → ℕ → ℕ
cost_bits_in s at j = u16_at s (at + 8 + 2 * j)

-- the bits of its costs by all ceilings that there is room for
unfoldable pub cost_bits : ℕ → List ℕ → ℕ → List ℕ
cost_bits slots s at = tabulate (cost_bits_in s at) slots

-- c1, c2, ..: its cost by ceiling j, from 0
abbrev pub cost_in : List ℕ → ℕ → ℕ → ℤ
cost_in s at j = signed w16 (cost_bits_in s at j)

-- ---- the network

-- the ends of the first m links: entry q is end q % 2 of link q / 2
unfoldable pub ends_in : Layout → List ℕ → ℕ → List ℕ
ends_in l s m = tabulate (λ q. end_in s (link_start l (q / 2)) (q % 2)) (2 * m)

-- a sum cost raised by 1,000,000; 0 for the lowest one allowed, and for those below it, which number 8 declines
unfoldable pub raised : ℤ → ℕ
raised (pos n) = n + raise
raised (negsuc n) = raise - suc n

-- their sum costs, raised
unfoldable pub sums_in : Layout → List ℕ → ℕ → List ℕ
sums_in l s m = tabulate (λ i. raised (sum_in s (link_start l i))) m

-- their costs by ceiling j, from 0
unfoldable pub ceiling_in : Layout → List ℕ → ℕ → ℕ → List ℤ
ceiling_in l s m j = tabulate (λ i. cost_in s (link_start l i) j) m

-- their costs by the first p ceilings, one ceiling after the other
unfoldable pub costs_in : Layout → List ℕ → ℕ → ℕ → List ℤ
costs_in l s m zero = []
costs_in l s m (suc p) = costs_in l s m p ++ ceiling_in l s m p

-- the network of the yard record and the first m link records
unfoldable pub network_with : Layout → List ℕ → ℕ → Network
network_with l s m =
    record {
      n = stations_in s;
      p = ceilings_in s;
      k = take (ceilings_in s) (ranks_in l s);
      rest = rest_in l s;
      m = m;
      ends = ends_in l s m;
      sums = sums_in l s m;
      costs = costs_in l s m (ceilings_in s);
    }

-- the network of a survey
abbrev pub network_of : List ℕ → Network
network_of s = network_with (layout_of s) s (link_count (layout_of s) s)
