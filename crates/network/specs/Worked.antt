-- Document 01, "Yards worked through": P1 to P12 in one table, from survey bytes to list bytes, then the yards of later requests. WorkedRight.antt has
-- the theorem that every row is right.
use Rattle.std.specs.Prelude.{not, List, [], ◌∷◌, ◌++◌, map, ◌≡◌, ℕ, ◌-◌, ℤ, pos, negsuc, drop, length, replicate, take}
use Rattle.std.specs.Int.{w32}
use Rattle.order.specs.Lists.{filter, numbers_from}
use Rattle.order.specs.Order.{orderℤ}
use Rattle.frontier.specs.Frontier.{positions}
use Rattle.kmax.specs.KMax.{kmax}
use Rattle.network.specs.Limits.{max_plans}
use Rattle.network.specs.Walk.{plans, solved_count, walked}
use Rattle.network.specs.Bytes.{signed}
use Rattle.network.specs.Survey.{network_of}
use Rattle.network.specs.PlanList.{buffer_need}
use Rattle.network.specs.Refusals.{bad_ranks, bad_sum, checked_of}
use Rattle.network.specs.Calls.{Reply, asked, judged, list_after, list_status, status, tree_after}
use Rattle.network.specs.Fetching.{fetch_links, fetch_number}
use Rattle.network.specs.Indexing.{index_after, index_status, lookup_reply}
use Rattle.network.specs.Writing.{figures_from, write_after, write_status}
use Rattle.network.specs.SmallSurveys.{small_after, small_status}
use Rattle.network.specs.Printing.{printed}
use Rattle.network.specs.WorkedYards.{A, apart, A₂, A₃, bare, costs, costs_a, costs₃, counted_a, cut_a, ends_a, entries, figures, graded, link, links41}
use Rattle.network.specs.WorkedYards.{links_a, link₃, list, list_a, list_a₃, list_winter, looked, minus, mixed, mixed₃, most_at_rest, one, output42, output_a}
use Rattle.network.specs.WorkedYards.{output_a₃, output_solar, output_winter, pair, panels, plan, plan₃, refused, replied, resting, single, solar, sum_bits}
use Rattle.network.specs.WorkedYards.{sums_a, sunny, tallied, three, tied, tripled, two, unmarked, winter, yard}
use Rattle.network.specs.declared.refusals.Status.{Status}
use Rattle.network.specs.declared.YardFigures.{YardFigures}

-- A question with its answer.
pub data Row : Type 0 where
  -- the list call with enough allowance, into a buffer of the bytes it needs that held other bytes: the plans' links, the solved count, the list
  lists : (survey : List ℕ) (links : List (List ℕ)) (count need : ℕ) (list : List ℕ) → Row
  -- the list call with this allowance into a buffer that held other bytes: its reply, and the buffer after it
  allows : (survey : List ℕ) (allowance size : ℕ) → Status → List ℕ → Row
  -- the ceilings question into a tree buffer: the reply, and the buffer after it
  asks : (survey : List ℕ) (given : List ℤ) (buffer : List ℕ) → Reply → List ℕ → Row
  -- a drawn tree, and the reply
  draws : (survey drawn : List ℕ) → Reply → Row
  -- the k-th largest of some figures
  ranks : (k : ℕ) → List ℤ → ℤ → Row
  -- the ranks of so many ceilings, each from 0 to 4, that number 6 lets pass with n working stations, where all are present
  accepts : (p n : ℕ) (passed : List (List ℕ)) → Row
  -- bits of a sum cost, the numbers that they mean, and which of them number 8 lets pass
  prices : (bits : List ℕ) (meant passed : List ℤ) → Row
  -- a survey, and the number and place that it alone decides (`checked_of`); 0 and 0 if it is accepted
  checks : (survey : List ℕ) → Status → Row
  -- fetching plan r of a list: the number, and the links
  fetches : (list : List ℕ) (r number : ℕ) (links : List ℕ) → Row
  -- building the index of a list into a buffer: its reply, and the buffer after it
  builds : (list buffer : List ℕ) → Status → List ℕ → Row
  -- a lookup by a list and an index, with the given value, and the reply
  looks : (list index : List ℕ) (y : ℤ) → Reply → Row
  -- writing the survey of a yard and columns, with a kind of yard record, into an output: its reply, and the output after it
  writes : (kind : ℕ) (y : YardFigures) (ends : List ℕ) (sums costs : List ℤ) (output : List ℕ) → Status → List ℕ → Row
  -- the small survey of a number, into an output: its reply, and the output after it
  generates : (q : ℕ) (output : List ℕ) → Status → List ℕ → Row
  -- standard input, and what the program prints
  prints : (input output : List ℕ) → Row

-- what the list call gives a survey: the promised plans, which the walk leaves too, the solved count, the buffer's need, the reply and every byte
pub record Lists (s : List ℕ) (links : List (List ℕ)) (count need : ℕ) (list : List ℕ) : Type 0 where
  pub promised : plans (network_of s) ≡ links
  pub by-walk : walked (network_of s) ≡ links
  pub counted : solved_count (network_of s) ≡ count
  pub needed : buffer_need (network_of s) ≡ need
  pub succeeds : list_status s max_plans need ≡ record { number = 0; place = 0 }
  pub bytes : list_after s max_plans (replicate need 0xFF) ≡ list ++ replicate (need - length list) 0

-- all ranks of p ceilings from 0 to 4
abbrev pub rank_lists : ℕ → List (List ℕ)
rank_lists p = positions (replicate p (numbers_from 5 0))

-- the answer of a row is the one that the definitions give
abbrev pub Right : Row → Type 0
Right (lists s links count need list) = Lists s links count need list
Right (allows s allowance size r after) = (list_status s allowance size ≡ r) × (list_after s allowance (replicate size 0xFF) ≡ after)
Right (asks s given buffer r after) = (asked s given (length buffer) ≡ r) × (tree_after s given buffer ≡ after)
Right (draws s drawn r) = judged s drawn ≡ r
Right (ranks k vs v) = kmax orderℤ k vs (pos 0) ≡ v
Right (accepts p n passed) = filter (λ ks. not (bad_ranks n p ks)) (rank_lists p) ≡ passed
Right (prices bits meant passed) = (map (signed w32) bits ≡ meant) × (filter (λ s. not (bad_sum s)) meant ≡ passed)
Right (checks s r) = status (checked_of s) ≡ r
Right (fetches l r number links) = (fetch_number l r ≡ number) × (fetch_links l r ≡ links)
Right (builds l buffer r after) = (index_status l (length buffer) ≡ r) × (index_after l buffer ≡ after)
Right (looks l index y r) = lookup_reply l index y ≡ r
Right (writes kind y ends sums costs output r after) =
    let f = figures_from y ends sums costs in (write_status kind f (length output) ≡ r) × (write_after kind f output ≡ after)
Right (generates q output r after) = (small_status q (length output) ≡ r) × (small_after q output ≡ after)
Right (prints input output) = printed input ≡ output

-- A yard worked through: its P number, how many rows it has, and these.
pub record Work : Type 0 where
  pub number : ℕ
  pub count : ℕ
  pub rows : List Row

-- P n with so many rows
abbrev P : ℕ → ℕ → List Row → Work
P n count rows = record { number = n; count = count; rows = rows }

-- P1 to P49, in their order, each with its rows. P1 to P12 are document 01's; in P13 to P16 both ranks may be 2, P14's tree has one link above both
-- bounds and P15's two, one above each; in P17 to P21 sum costs may be negative; P22 to P25 have a link count, P24 on where 15 stands among the
-- numbers and P25 on lengths and marks; P26 to P29 are on the index, with signs and ties, without ceilings, and where it is declined; P30 to P33 are
-- on writing, P32 on the order of the numbers and P33 on columns and an output that are too short; in P34 to P40 stations may rest, P38 with bits of
-- both kinds in each of the three bytes, P39 on where 18 stands; in P41 to P48 there may be three ceilings, P44 on the ranks that pass, P45 on p,
-- marks and lengths, P46 on M and where 19 stands, P47 on fetching and P48 on the index; P49 is on the small surveys, with the first and the last, where
-- 20 stands, and numbers of more than 16 bits
unfoldable pub table : List Work
table =
    P 1 2 (
    lists (A 1) (two (two 1 2) (two 0 1)) 3 46 list_a
    ∷ prints (A 1) output_a ∷ [])
    ∷ P 2 1 (one (lists (A 2) (one (two 1 2)) 1 46 (list 1 1 2 1 (one (plan 4 2 0 (two 1 2))))))
    ∷ P 3 1 (one (lists (A₂ 1 1) (two 1 2 ∷ two 0 2 ∷ two 0 1 ∷ []) 6 118
    (list 3 6 2 2 (plan 4 9 6 (two 1 2) ∷ plan 5 9 3 (two 0 2) ∷ plan 7 7 6 (two 0 1) ∷ []))))
    ∷ P 4 1 (one (lists (pair 3 8) (one (one 0)) 1 32 (list 1 1 1 1 (one (plan 5 3 0 (one 0))))))
    ∷ P 5 1 (one (lists (pair 8 3) (one (one 1)) 2 32 (list 1 2 1 1 (one (plan 5 3 0 (one 1))))))
    ∷ P 6 1 (one (lists single (one []) 1 20 (list 1 1 0 0 (one (plan 0 0 0 [])))))
    ∷ P 7 1 (one (lists bare [] 0 10 (list 0 0 1 1 [])))
    ∷ P 8 1 (one (asks (A 1) (three (pos 8) (pos 0) (pos 0)) (two 0xFF 0xFF) (costs (pos 7) (pos 7) (pos 0)) (two 0 1)))
    ∷ P 9 1 (one (asks (A 1) (three (pos 6) (pos 0) (pos 0)) (two 0xFF 0xFF) (refused 14 0) (two 0xFF 0xFF)))
    ∷ P 10 1 (one (draws (A 1) (two 0 2) (costs (pos 5) (pos 9) (pos 0))))
    ∷ P 11 1 (one (ranks 2 (pos 5 ∷ negsuc 2 ∷ pos 5 ∷ []) (pos 5)))
    ∷ P 12 2 (
    allows (A 1) 3 46 (replied 0 0) (list_a ++ replicate 12 0)
    ∷ allows (A 1) 2 46 (replied 10 0) (replicate 46 0) ∷ [])
    ∷ P 13 1 (one (lists (A₂ 2 2) (two 1 2 ∷ two 0 2 ∷ two 0 1 ∷ []) 3 118
    (list 3 3 2 2 (plan 4 2 3 (two 1 2) ∷ plan 5 7 1 (two 0 2) ∷ plan 7 2 1 (two 0 1) ∷ []))))
    ∷ P 14 1 (one (asks (A₂ 2 2) (three (pos 8) (pos 2) (pos 0)) (two 0xFF 0xFF) (costs (pos 5) (pos 7) (pos 1)) (two 0 2)))
    ∷ P 15 1 (one (asks (A₂ 2 2) (three (pos 8) (pos 3) (pos 0)) (two 0xFF 0xFF) (costs (pos 4) (pos 2) (pos 3)) (two 1 2)))
    ∷ P 16 3 (
    accepts 2 2 (one (two 1 1))
    ∷ accepts 2 3 (two 1 1 ∷ two 1 2 ∷ two 2 1 ∷ two 2 2 ∷ [])
    ∷ accepts 2 4 (two 1 1 ∷ two 1 2 ∷ two 1 3 ∷ two 2 1 ∷ two 2 2 ∷ two 3 1 ∷ []) ∷ [])
    ∷ P 17 2 (
    lists solar (two (two 0 2) (two 1 2)) 3 46 (list 2 3 2 1 (two (plan (minus 2) 9 0 (two 0 2)) (plan 5 7 0 (two 1 2))))
    ∷ prints solar output_solar ∷ [])
    ∷ P 18 1 (one (lists panels (one (one 1)) 2 32 (list 1 2 1 1 (one (plan (minus 5) 3 0 (one 1))))))
    ∷ P 19 1 (one (asks sunny (three (pos 5) (pos 0) (pos 0)) (two 0xFF 0xFF) (costs (negsuc 6) (pos 2) (pos 0)) (two 0 1)))
    ∷ P 20 1 (one (draws solar (two 0 1) (costs (negsuc 0) (pos 9) (pos 0))))
    ∷ P 21 1 (one (prices sum_bits
    (negsuc 2_147_483_647 ∷ negsuc 1_000_000 ∷ negsuc 999_999 ∷ negsuc 0 ∷ pos 0 ∷ pos 1_000_000 ∷ pos 1_000_001 ∷ pos 2_147_483_647 ∷ [])
    (negsuc 999_999 ∷ negsuc 0 ∷ pos 0 ∷ pos 1_000_000 ∷ [])))
    ∷ P 22 2 (
    lists counted_a (two (two 1 2) (two 0 1)) 3 46 list_a
    ∷ prints counted_a output_a ∷ [])
    ∷ P 23 3 (
    allows cut_a 3 46 (replied 15 0) (replicate 46 0xFF)
    ∷ asks cut_a (three (pos 8) (pos 0) (pos 0)) (two 0xFF 0xFF) (refused 15 0) (two 0xFF 0xFF)
    ∷ draws cut_a (two 0 1) (refused 15 0) ∷ [])
    ∷ P 24 6 (
    checks (tallied 3 1 1 0 4 links_a) (replied 15 0)
    ∷ checks (tallied 3 1 1 0 2 links_a) (replied 15 0)
    ∷ checks (tallied 25 1 1 0 4 links_a) (replied 3 0)
    ∷ checks (tallied 3 1 1 0 40 links41) (replied 4 0)
    ∷ checks (tallied 3 3 1 0 4 links_a) (replied 15 0)
    ∷ checks (tallied 3 3 1 0 3 links_a) (replied 5 0) ∷ [])
    ∷ P 25 5 (
    checks (tallied 1 0 0 0 0 []) (replied 0 0)
    ∷ checks (take 6 counted_a) (replied 1 0)
    ∷ checks (take 1 counted_a) (replied 1 0)
    ∷ checks (0x59 ∷ 0x48 ∷ 3 ∷ 1 ∷ 1 ∷ 0 ∷ []) (replied 2 0)
    ∷ checks (0x59 ∷ 0x48 ∷ 3 ∷ 1 ∷ 1 ∷ 0 ∷ 0 ∷ []) (replied 1 0) ∷ [])
    ∷ P 26 4 (
    builds list_a (replicate 4 0xFF) (replied 0 0) (entries (two 1 0))
    ∷ looks list_a (entries (two 1 0)) (pos 9) (looked 0)
    ∷ looks list_a (entries (two 1 0)) (pos 8) (looked 1)
    ∷ looks list_a (entries (two 1 0)) (pos 6) (refused 13 0) ∷ [])
    ∷ P 27 4 (
    builds (mixed 2) (replicate 12 0xFF) (replied 0 0) (entries (1 ∷ 2 ∷ 3 ∷ 0 ∷ 4 ∷ []) ++ two 0xFF 0xFF)
    ∷ looks (mixed 2) (entries (1 ∷ 2 ∷ 3 ∷ 0 ∷ 4 ∷ []) ++ two 0xFF 0xFF) (pos 3) (looked 2)
    ∷ looks (mixed 2) (entries (1 ∷ 2 ∷ 3 ∷ 0 ∷ 4 ∷ [])) (pos 2) (looked 1)
    ∷ looks (mixed 2) (entries (1 ∷ 2 ∷ 3 ∷ 0 ∷ 4 ∷ [])) (negsuc 2) (refused 13 0) ∷ [])
    ∷ P 28 2 (
    builds (mixed 0) (replicate 10 0xFF) (replied 0 0) (entries (2 ∷ 0 ∷ 1 ∷ 3 ∷ 4 ∷ []))
    ∷ looks (mixed 0) (entries (2 ∷ 0 ∷ 1 ∷ 3 ∷ 4 ∷ [])) (negsuc 32_767) (looked 2) ∷ [])
    ∷ P 29 8 (
    looks tied (entries (two 1 0)) (pos 3) (looked 0)
    ∷ looks tied (entries (two 0 1)) (pos 3) (refused 12 0)
    ∷ looks tied (entries (two 1 1)) (pos 3) (refused 12 0)
    ∷ looks tied (take 3 (entries (two 1 0))) (pos 3) (refused 16 0)
    ∷ builds tied (replicate 3 0xFF) (replied 16 0) (replicate 3 0xFF)
    ∷ builds unmarked (replicate 3 0xFF) (replied 12 0) (replicate 3 0xFF)
    ∷ builds (list 0 0 0 1 []) [] (replied 0 0) []
    ∷ looks (list 0 0 0 1 []) [] (pos 3) (refused 13 0) ∷ [])
    ∷ P 30 2 (
    writes 0x5945 (figures 3 1 1 0) ends_a sums_a costs_a (replicate 46 0xFF) (replied 0 0) (counted_a ++ replicate 3 0xFF)
    ∷ writes 0x5944 (figures 3 1 1 0) ends_a sums_a costs_a output42 (replied 0 0) (A 1) ∷ [])
    ∷ P 31 3 (
    writes 0x5944 (figures 3 1 2 0) ends_a (negsuc 3 ∷ negsuc 2 ∷ negsuc 0 ∷ []) costs_a output42 (replied 0 0) sunny
    ∷ writes 0x5945 (figures 1 0 0 0) [] [] [] (replicate 7 0xFF) (replied 0 0) (tallied 1 0 0 0 0 [])
    ∷ writes 0x5944 (figures 2 2 1 1) (two 1 0) (one (pos 5)) (two (negsuc 32_767) (negsuc 0)) (replicate 18 0xFF) (replied 0 0)
    (yard 2 2 1 1 (one (link 1 0 5 0x8000 0xFFFF))) ∷ [])
    ∷ P 32 7 (
    writes 0x5946 (figures 25 1 1 0) ends_a sums_a costs_a output42 (replied 2 0) output42
    ∷ writes 0x5944 (figures 25 1 1 0) ends_a (replicate 41 (pos 1)) costs_a output42 (replied 3 0) output42
    ∷ writes 0x5944 (figures 3 3 1 0) ends_a (replicate 41 (pos 1)) costs_a output42 (replied 4 0) output42
    ∷ writes 0x5944 (figures 3 3 4 0) ends_a sums_a costs_a output42 (replied 5 0) output42
    ∷ writes 0x5944 (figures 3 1 3 0) (two 0 0) (one (pos 4)) (two (pos 7) (pos 0)) output42 (replied 6 0) output42
    ∷ writes 0x5944 (figures 3 1 1 0) (0 ∷ 1 ∷ 1 ∷ 3 ∷ []) (two (pos 4) (pos 1_000_001)) costs_a output42 (replied 7 2) output42
    ∷ writes 0x5944 (figures 3 1 1 0) (0 ∷ 1 ∷ 1 ∷ 1 ∷ []) (two (pos 4) (pos 3)) (two (pos 7) (pos 1)) output42 (replied 8 1) output42 ∷ [])
    ∷ P 33 7 (
    writes 0x5944 (figures 3 1 1 0) (take 5 ends_a) sums_a costs_a (take 41 output42) (replied 7 3) (take 41 output42)
    ∷ writes 0x5944 (figures 2 0 0 0) (two 0 1) (one (pos 5)) [] (replicate 18 0xFF) (replied 0 0) (yard 2 0 0 0 (one (link 0 1 5 0 0)))
    ∷ writes 0x5944 (figures 3 1 1 0) ends_a sums_a (take 5 costs_a) output42 (replied 0 0) (A 1)
    ∷ writes 0x5944 (figures 3 1 1 0) ends_a sums_a (take 4 costs_a) output42 (replied 8 3) output42
    ∷ writes 0x5944 (figures 2 2 1 1) (two 1 0) (one (pos 5)) (one (negsuc 32_767)) (replicate 18 0xFF) (replied 8 1) (replicate 18 0xFF)
    ∷ writes 0x5944 (figures 3 1 1 0) (take 5 ends_a) sums_a (take 4 costs_a) output42 (replied 7 3) output42
    ∷ writes 0x5944 (figures 3 1 1 0) ends_a sums_a costs_a (take 41 output42) (replied 17 0) (take 41 output42) ∷ [])
    ∷ P 34 6 (
    lists (winter 1) (two (two 2 3) (two 0 2)) 3 46 list_winter
    ∷ prints (winter 1) output_winter
    ∷ asks (winter 1) (three (pos 8) (pos 0) (pos 0)) (replicate 3 0xFF) (costs (pos 7) (pos 7) (pos 0)) (0 ∷ 2 ∷ 0xFF ∷ [])
    ∷ asks (winter 1) (three (pos 8) (pos 0) (pos 0)) (one 0xFF) (refused 9 0) (one 0xFF)
    ∷ draws (winter 1) (two 0 3) (costs (pos 5) (pos 9) (pos 0))
    ∷ draws (winter 1) (two 1 2) (refused 11 0) ∷ [])
    ∷ P 35 2 (
    lists (resting 3 1 1 0 3 0 links_a) (two (two 1 2) (two 0 1)) 3 46 list_a
    ∷ prints (resting 3 1 1 0 3 0 links_a) output_a ∷ [])
    ∷ P 36 2 (
    lists (resting 2 0 0 0 1 1 (one (link 0 1 5 0 0))) (one []) 1 20 (list 1 1 0 0 (one (plan 0 0 0 [])))
    ∷ checks (resting 2 1 1 0 1 1 (one (link 0 1 5 3 0))) (replied 6 0) ∷ [])
    ∷ P 37 1 (one (lists (resting 3 1 1 0 2 2 (two (link 0 1 4 7 0) (link 1 2 3 2 0))) [] 0 10 (list 0 0 1 1 [])))
    ∷ P 38 1 (one (lists apart (one (two 2 3)) 1 22 (list 1 1 2 0 (one (plan 7 0 0 (two 2 3))))))
    ∷ P 39 7 (
    checks (resting 3 1 1 0 3 8 links_a) (replied 18 0)
    ∷ checks (resting 23 0 0 0 0 0x800000 []) (replied 18 0)
    ∷ checks (resting 24 0 0 0 0 0xFFFFFF []) (replied 18 0)
    ∷ checks (resting 24 0 0 0 0 0x7FFFFF []) (replied 0 0)
    ∷ checks (resting 3 3 1 0 4 7 links_a) (replied 15 0)
    ∷ checks (resting 3 3 1 0 3 7 links_a) (replied 18 0)
    ∷ checks (take 9 (winter 1)) (replied 1 0) ∷ [])
    ∷ P 40 4 (
    checks (resting 3 1 1 0 1 4 (one (link 2 2 4 7 0))) (replied 7 1)
    ∷ checks (resting 3 1 1 0 1 4 (one (link 0 2 1_000_001 7 0))) (replied 8 1)
    ∷ checks (winter 2) (replied 0 0)
    ∷ checks (winter 3) (replied 6 0) ∷ [])
    ∷ P 41 2 (
    lists (A₃ (three 1 1 1)) (two 1 2 ∷ two 0 2 ∷ two 0 1 ∷ []) 9 388 list_a₃
    ∷ prints (A₃ (three 1 1 1)) output_a₃ ∷ [])
    ∷ P 42 2 (
    lists (A₃ (three 2 2 1)) (two 1 2 ∷ two 0 2 ∷ two 0 1 ∷ []) 6 388
    (list 3 6 2 3 (plan₃ 4 2 3 8 (two 1 2) ∷ plan₃ 5 7 1 5 (two 0 2) ∷ plan₃ 7 2 1 8 (two 0 1) ∷ []))
    ∷ lists (A₃ (three 2 1 2)) (two (two 1 2) (two 0 2)) 4 388 (list 2 4 2 3 (two (plan₃ 4 2 6 4 (two 1 2)) (plan₃ 5 7 3 4 (two 0 2)))) ∷ [])
    ∷ P 43 4 (
    asks (A₃ (three 1 1 1)) (three (pos 9) (pos 6) (pos 8)) (two 0xFF 0xFF) (costs₃ (pos 4) (pos 9) (pos 6) (pos 8)) (two 1 2)
    ∷ asks (A₃ (three 1 1 1)) (three (pos 9) (pos 6) (pos 7)) (two 0xFF 0xFF) (costs₃ (pos 5) (pos 9) (pos 3) (pos 5)) (two 0 2)
    ∷ asks (A₃ (three 1 1 1)) (three (pos 9) (pos 6) (pos 4)) (two 0xFF 0xFF) (refused 14 0) (two 0xFF 0xFF)
    ∷ draws (A₃ (three 2 1 2)) (two 0 1) (costs₃ (pos 7) (pos 2) (pos 6) (pos 5)) ∷ [])
    ∷ P 44 3 (
    accepts 3 2 (one (three 1 1 1))
    ∷ accepts 3 3 (three 1 1 1 ∷ three 1 1 2 ∷ three 1 2 1 ∷ three 1 2 2 ∷ three 2 1 1 ∷ three 2 1 2 ∷ three 2 2 1 ∷ [])
    ∷ accepts 3 4
    (three 1 1 1 ∷ three 1 1 2 ∷ three 1 1 3 ∷ three 1 2 1 ∷ three 1 2 2 ∷ three 1 3 1 ∷ three 2 1 1 ∷ three 2 1 2 ∷ three 2 2 1 ∷ three 3 1 1 ∷ []) ∷ [])
    ∷ P 45 11 (
    checks (tripled 3 2 (three 1 1 0) 1 0 (one (link₃ 0 1 4 7 1 0))) (replied 5 0)
    ∷ checks (tripled 3 4 (three 1 1 1) 1 0 (one (link₃ 0 1 4 7 1 5))) (replied 5 0)
    ∷ checks (yard 3 3 1 1 links_a) (replied 5 0)
    ∷ checks (resting 3 3 1 1 3 0 links_a) (replied 5 0)
    ∷ checks (tripled 2 3 (three 1 1 1) 1 1 (one (link₃ 0 1 4 7 1 5))) (replied 6 0)
    ∷ checks (tripled 3 3 (three 1 1 1) 1 0 (one (0x4C ∷ 0x4B ∷ drop 2 (link₃ 0 1 4 7 1 5)))) (replied 2 1)
    ∷ checks (resting 3 1 1 0 1 0 (one (0x4C ∷ 0x4D ∷ drop 2 (link 0 1 4 7 0)))) (replied 2 1)
    ∷ checks (take 10 (A₃ (three 1 1 1))) (replied 1 0)
    ∷ checks (take 52 (A₃ (three 1 1 1))) (replied 1 0)
    ∷ checks (take 39 (A₃ (three 1 1 1))) (replied 15 0)
    ∷ writes 0x5947 (figures 3 1 1 0) ends_a sums_a costs_a output42 (replied 2 0) output42 ∷ [])
    ∷ P 46 9 (
    checks (graded 10 10 16 0 1) (replied 0 0)
    ∷ checks (graded 7 10 23 0 1) (replied 19 0)
    ∷ checks (graded 40 40 40 0 1) (replied 19 0)
    ∷ checks (graded 40 40 40 1 1) (replied 7 40)
    ∷ allows (graded 7 10 23 0 1) 0 3 (replied 19 0) (replicate 3 0xFF)
    ∷ asks (graded 7 10 23 0 1) (three (pos 9) (pos 9) (pos 9)) [] (refused 19 0) []
    ∷ draws (graded 7 10 23 0 1) [] (refused 19 0)
    ∷ checks (most_at_rest 11) (replied 0 0)
    ∷ checks (most_at_rest 12) (replied 19 0) ∷ [])
    ∷ P 47 7 (
    fetches list_a₃ 0 0 (two 1 2)
    ∷ fetches list_a₃ 2 0 (two 0 1)
    ∷ fetches list_a₃ 3 13 []
    ∷ fetches (take 51 list_a₃) 0 12 []
    ∷ fetches (list 1 1 2 3 (one (plan 4 9 0 (0 ∷ 1 ∷ two 1 2)))) 0 12 []
    ∷ fetches (list 1 1 2 4 (one (plan₃ 4 9 6 8 (two 1 2)))) 0 12 []
    ∷ fetches list_a 1 0 (two 0 1) ∷ [])
    ∷ P 48 3 (
    builds mixed₃ (replicate 10 0xFF) (replied 0 0) (entries (1 ∷ 2 ∷ 3 ∷ 0 ∷ 4 ∷ []))
    ∷ looks mixed₃ (entries (1 ∷ 2 ∷ 3 ∷ 0 ∷ 4 ∷ [])) (pos 2) (looked 1)
    ∷ looks mixed₃ (entries (1 ∷ 2 ∷ 3 ∷ 4 ∷ 0 ∷ [])) (pos 2) (refused 12 0) ∷ [])
    ∷ P 49 8 (
    generates 0 (replicate 44 0xFF) (replied 0 0) (yard 3 1 1 0 (replicate 3 (link 0 1 0 0 0)) ++ two 0xFF 0xFF)
    ∷ generates 1 output42 (replied 0 0) (yard 3 1 1 0 (three (link 0 1 0 0 0) (link 0 1 0 0 0) (link 0 1 0 1 0)))
    ∷ generates 1_129 output42 (replied 0 0) (yard 3 1 1 0 (three (link 0 2 1 1 0) (link 1 2 1 0 0) (link 0 1 0 1 0)))
    ∷ generates 1_727 output42 (replied 0 0) (yard 3 1 1 0 (replicate 3 (link 1 2 1 1 0)))
    ∷ generates 1_727 (take 41 output42) (replied 17 0) (take 41 output42)
    ∷ generates 1_728 (take 41 output42) (replied 20 0) (take 41 output42)
    ∷ generates 65_536 output42 (replied 20 0) output42
    ∷ generates 4_294_967_295 output42 (replied 20 0) output42 ∷ [])
    ∷ []
