-- Document 02, "All small yards in order": the choices of a link in their order, the small surveys in theirs, and the survey of a number, with 20 and
-- 17.
use Rattle.std.specs.Prelude.{List, [], ◌∷◌, map, ℕ, leb, ltb, pos, get_or, length, replicate}
use Rattle.order.specs.Lists.{numbers_from}
use Rattle.frontier.specs.Frontier.{positions}
use Rattle.network.specs.Checked.{refuse_if, ◌or_else◌}
use Rattle.network.specs.Calls.{if_fine, status}
use Rattle.network.specs.Writing.{Figures, Link, survey_at_front, survey_of}
use Rattle.network.specs.Checked.{Checked}
use Rattle.network.specs.declared.refusals.Status.{Status}
use Rattle.network.specs.declared.YardFigures.{YardFigures}
use Rattle.network.specs.declared.refusals.Rule.TheVariants.{NoSuchSurvey, ShortOutput}

-- ---- the surveys in their order

-- the pairs of ends that a link may have, in their order
abbrev pub small_ends : List (ℕ × ℕ)
small_ends = (0, 1) ∷ (0, 2) ∷ (1, 2) ∷ []

-- what a link is chosen by: which of the three pairs of ends, s of 0 or 1, c1 of 0 or 1
abbrev pub choice_parts : List (List ℕ)
choice_parts = numbers_from 3 0 ∷ numbers_from 2 0 ∷ numbers_from 2 0 ∷ []

-- the link of three such parts: the place of its ends among the pairs, s and c1; c2 is absent, and so 0
abbrev pub small_link : List ℕ → Link
small_link c =
    let ends = get_or small_ends (get_or c 0 0) (0, 0) in
    record { first = ends.0; second = ends.1; sum = pos (get_or c 1 0); c1 = pos (get_or c 2 0); c2 = pos 0 }

-- a link's choices in their order: by ends, then by s, then by c1
unfoldable pub choices : List Link
choices = map small_link (positions choice_parts)

-- how many choices a link has
abbrev pub choice_count : ℕ
choice_count = 12

-- how many links a small survey has
abbrev pub small_link_count : ℕ
small_link_count = 3

-- the links of all small surveys in their order: by the choice of link 0, then of link 1, then of link 2
unfoldable pub links_in_order : List (List Link)
links_in_order = positions (replicate small_link_count choices)

-- n, p, k1 and k2 of a small yard
abbrev pub small_yard : YardFigures
small_yard = record { n = 3; p = 1; k1 = 1; k2 = 0 }

-- the figures of survey number q; where no survey has that number, those of a yard without links
abbrev pub small_figures : ℕ → Figures
small_figures q = record { yard = small_yard; links = get_or links_in_order q [] }

-- survey number q, with the old yard record
unfoldable pub small_survey : ℕ → List ℕ
small_survey q = survey_of (small_figures q) 0x5944

-- ---- the call

-- how many small surveys there are
abbrev pub small_count : ℕ
small_count = 1_728

-- how many bytes each of them has
abbrev pub small_bytes : ℕ
small_bytes = 42

-- 20: no survey has this number; then 17: an output of `size` bytes is shorter than a survey
unfoldable pub small_checked : ℕ → ℕ → Checked
small_checked q size = refuse_if (leb small_count q) NoSuchSurvey 0 or_else refuse_if (ltb size small_bytes) ShortOutput 0

-- the reply
unfoldable pub small_status : ℕ → ℕ → Status
small_status q size = status (small_checked q size)

-- the output after it: the survey, its bytes past it as they were; on a refusal all are as they were
unfoldable pub small_after : ℕ → List ℕ → List ℕ
small_after q output = if_fine (small_checked q (length output)) (survey_at_front (small_survey q) output) output
