-- Document 02, "Write surveys as well as read them": the figures of a survey, the survey that they make as bytes, and writing it, with the reader's
-- numbers on figures and 17.
use Rattle.std.specs.Prelude.{Bool, cond, not, ◌&&◌, ◌||◌, List, [], ◌∷◌, ◌++◌, map, ℕ, ◌+◌, ◌*◌, eqb, leb, ltb, ℤ, pos, drop, get_or, length}
use Rattle.std.specs.Int.{w16, w32}
use Rattle.order.specs.Lists.{numbers_from}
use Rattle.network.specs.Limits.{max_links, max_stations}
use Rattle.network.specs.Bytes.{bits_of, byte_at, little_endian}
use Rattle.network.specs.Survey.{ceilings_in, cost_in, end_in, has_count, layout_of, link_count, link_start, narrow_slots, plain, ranks_in, row_where}
use Rattle.network.specs.Survey.{stations_in, sum_in, with_count}
use Rattle.network.specs.PlanList.{join}
use Rattle.network.specs.Checked.{first_refusal, refuse_if, ◌or_else◌}
use Rattle.network.specs.Refusals.{bad_costs, bad_ends, bad_ranks, outside}
use Rattle.network.specs.Calls.{if_fine, status}
use Rattle.network.specs.Checked.{Checked}
use Rattle.network.specs.declared.Layout.{Layout}
use Rattle.network.specs.declared.refusals.Status.{Status}
use Rattle.network.specs.declared.YardFigures.{YardFigures}
use Rattle.network.specs.declared.refusals.Rule.TheVariants.{BadCeilings, BadCosts, BadEnds, BadRanks, BadStations, ShortOutput, TooManyLinks, WrongMark}

-- ---- figures

-- the figures of a link record: its two ends, s, c1 and c2. s is of 32 bits and c1 and c2 are of 16: the types of the columns say so. The records that
-- are written have two ceiling costs, whatever later ones have
pub record Link : Type 0 where
  pub first : ℕ
  pub second : ℕ
  pub sum : ℤ
  pub c1 : ℤ
  pub c2 : ℤ

-- the figures of a survey: n, p, k1 and k2 of its yard record, and its links in their order, however many
pub record Figures : Type 0 where
  pub yard : YardFigures
  pub links : List Link

-- the figures of the link record at an index
abbrev pub link_in : List ℕ → ℕ → Link
link_in s at = record { first = end_in s at 0; second = end_in s at 1; sum = sum_in s at; c1 = cost_in s at 0; c2 = cost_in s at 1 }

-- the figures of a survey in a layout
unfoldable pub figures_in : Layout → List ℕ → Figures
figures_in l s =
    record {
      yard = record { n = stations_in s; p = ceilings_in s; k1 = get_or (ranks_in l s) 0 0; k2 = get_or (ranks_in l s) 1 0 };
      links = map (λ i. link_in s (link_start l i)) (numbers_from (link_count l s) 0);
    }

-- the figures that a survey says
abbrev pub figures_of : List ℕ → Figures
figures_of s = figures_in (layout_of s) s

-- ---- kinds of yard records

-- the number that names a kind of yard record: its mark with the first byte high, so 0x5944 for 59 44
abbrev pub kind_of : Layout → ℕ
kind_of l = byte_at l.yard.mark 0 * 256 + byte_at l.yard.mark 1

-- the layouts that the writer knows: those of 59 44 and 59 45, and no later one
abbrev pub writable : List Layout
writable = plain ∷ with_count ∷ []

-- the layout's yard record is of this kind
abbrev pub is_of_kind : ℕ → Layout → Bool
is_of_kind kind l = eqb (kind_of l) kind

-- the layout of a survey with this kind of yard record; where the kind is not known, the old one
unfoldable pub layout_for : ℕ → Layout
layout_for kind = row_where (is_of_kind kind) writable

-- 2: the writer does not know the kind
unfoldable pub unknown_kind : ℕ → Bool
unknown_kind kind = not (is_of_kind kind (layout_for kind))

-- ---- the survey

-- the yard record of a survey with m links: its mark, n, p, k1, k2, and in the layout that has one the link count, whose low byte is all of it wherever
-- number 4 does not come first
unfoldable pub yard_bytes : Layout → YardFigures → ℕ → List ℕ
yard_bytes l y m = l.yard.mark ++ (y.n ∷ y.p ∷ y.k1 ∷ y.k2 ∷ cond (has_count l) (little_endian 1 m) [])

-- a link record: its mark, its ends, s, c1, c2
unfoldable pub link_bytes : List ℕ → Link → List ℕ
link_bytes mark x =
    mark
    ++ (x.first ∷ x.second ∷ (little_endian 4 (bits_of w32 x.sum) ++ (little_endian 2 (bits_of w16 x.c1) ++ little_endian 2 (bits_of w16 x.c2))))

-- the survey of figures in a layout: the yard record, then the links in their order
unfoldable pub survey_in : Layout → Figures → List ℕ
survey_in l f = yard_bytes l f.yard (length f.links) ++ join (map (link_bytes l.link.mark) f.links)

-- the survey of figures, with the kind of yard record that is asked for
abbrev pub survey_of : Figures → ℕ → List ℕ
survey_of f kind = survey_in (layout_for kind) f

-- ---- writing

-- 3, 4, 5, 6 of a yard with m links, all at place 0
unfoldable pub yard_figures_checked : YardFigures → ℕ → Checked
yard_figures_checked y m =
    refuse_if (outside y.n 1 max_stations) BadStations 0
    or_else refuse_if (ltb max_links m) TooManyLinks 0
    or_else refuse_if (ltb narrow_slots y.p) BadCeilings 0
    or_else refuse_if (bad_ranks y.n y.p (y.k1 ∷ y.k2 ∷ [])) BadRanks 0

-- 7, 8 of a link
unfoldable pub link_figures_checked : YardFigures → Link → ℕ → Checked
link_figures_checked y x place =
    refuse_if (bad_ends y.n x.first x.second) BadEnds place
    or_else refuse_if (bad_costs y.p x.sum (bits_of w16 x.c1 ∷ bits_of w16 x.c2 ∷ [])) BadCosts place

-- what stands for a link that is not there
abbrev pub no_link : Link
no_link = record { first = 0; second = 0; sum = pos 0; c1 = pos 0; c2 = pos 0 }

-- the links, link by link from 0: the place of a link is its number plus 1
abbrev pub links_figures_checked : YardFigures → List Link → ℕ → Checked
links_figures_checked y links m = first_refusal (λ i. link_figures_checked y (get_or links i no_link) (i + 1)) m

-- the figures: the yard's, then the links'. There is no length to be wrong (1), no mark of a link (2), no count beside the links (15) and no station at
-- rest (18).
unfoldable pub figures_checked : Figures → Checked
figures_checked f = let m = length f.links in yard_figures_checked f.yard m or_else links_figures_checked f.yard f.links m

-- 2 for a kind that is not known, then the figures, then 17: an output of `size` bytes is shorter than the survey
unfoldable pub write_checked : ℕ → Figures → ℕ → Checked
write_checked kind f size =
    refuse_if (unknown_kind kind) WrongMark 0 or_else figures_checked f or_else refuse_if (ltb size (length (survey_of f kind))) ShortOutput 0

-- the reply to writing
unfoldable pub write_status : ℕ → Figures → ℕ → Status
write_status kind f size = status (write_checked kind f size)

-- an output with a survey in its first bytes; the others are as they were
unfoldable pub survey_at_front : List ℕ → List ℕ → List ℕ
survey_at_front s output = s ++ drop (length s) output

-- the output after writing: the survey, its bytes past it as they were; on a refusal all are as they were
unfoldable pub write_after : ℕ → Figures → List ℕ → List ℕ
write_after kind f output = if_fine (write_checked kind f (length output)) (survey_at_front (survey_of f kind) output) output

-- ---- figures handed in as columns

-- what stands for an end that is not handed in: no station of any yard
abbrev pub no_station : ℕ
no_station = 255

-- what stands for the sum cost of a link that lacks a ceiling cost: no sum cost of any link, so that number 8 refuses the link
abbrev pub no_sum : ℤ
no_sum = pos 2_147_483_647

-- in a column of `given` ceiling costs link i lacks c1 or c2, though its ceiling is one of p: they are the entries 2 * i and 2 * i + 1
abbrev pub lacks_cost : ℕ → ℕ → ℕ → Bool
lacks_cost p given i = (ltb 0 p && leb given (2 * i)) || (ltb 1 p && leb given (2 * i + 1))

-- the sum cost of link i beside a column of `given` ceiling costs, in a yard with p ceilings
abbrev pub sum_from : ℕ → List ℤ → ℕ → ℕ → ℤ
sum_from p sums given i = cond (lacks_cost p given i) no_sum (get_or sums i (pos 0))

-- link i of columns with two ends, a sum cost and two ceiling costs for each link, in a yard with p ceilings. An end that is not handed in is no station,
-- and such a cost of an absent ceiling is 0; a link that lacks the cost of a present ceiling has no sum cost
abbrev pub link_from : ℕ → List ℕ → List ℤ → List ℤ → ℕ → Link
link_from p ends sums costs i =
    record {
      first = get_or ends (2 * i) no_station;
      second = get_or ends (2 * i + 1) no_station;
      sum = sum_from p sums (length costs) i;
      c1 = get_or costs (2 * i) (pos 0);
      c2 = get_or costs (2 * i + 1) (pos 0);
    }

-- the ends of links as a column
abbrev pub end_column : List Link → List ℕ
end_column [] = []
end_column (x ∷ xs) = x.first ∷ x.second ∷ end_column xs

-- their sum costs as a column
abbrev pub sum_column : List Link → List ℤ
sum_column [] = []
sum_column (x ∷ xs) = x.sum ∷ sum_column xs

-- their ceiling costs as a column
abbrev pub cost_column : List Link → List ℤ
cost_column [] = []
cost_column (x ∷ xs) = x.c1 ∷ x.c2 ∷ cost_column xs

-- the figures of a yard and of columns: as many links as sum costs. All figures come so, by the columns of their links (`columns-say`)
unfoldable pub figures_from : YardFigures → List ℕ → List ℤ → List ℤ → Figures
figures_from y ends sums costs = record { yard = y; links = map (link_from y.p ends sums costs) (numbers_from (length sums) 0) }
