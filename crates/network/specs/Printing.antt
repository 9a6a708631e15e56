-- Document 01, "Printing": what the program writes for its standard input, in bytes.
use Rattle.std.specs.Prelude.{cond, List, [], ◌∷◌, ◌++◌, map, ℕ, suc, zero, ◌+◌, ◌/◌, ◌%◌, ltb, ℤ, negsuc, pos, length, take}
use Rattle.network.specs.Limits.{max_input, max_plans}
use Rattle.network.specs.Yard.{vector}
use Rattle.network.specs.Walk.{plans, solved_count}
use Rattle.network.specs.Survey.{network_of}
use Rattle.network.specs.PlanList.{join, max_need}
use Rattle.network.specs.Calls.{list_checked}
use Rattle.network.specs.Checked.{Checked, number_of}
use Rattle.std.specs.Prelude.{Ok, Err}
use Rattle.network.specs.Network.{Network}

-- the decimal digits of n in ASCII, most significant first, where `fuel` is at least their number
abbrev pub digits : ℕ → ℕ → List ℕ
digits zero n = []
digits (suc fuel) n =
    let front = digits fuel (n / 10) in
    cond (ltb n 10) [] front ++ ((48 + n % 10) ∷ [])

-- a number without a sign, in decimal digits
abbrev pub natural : ℕ → List ℕ
natural n = digits (suc n) n

-- a signed number: a hyphen before the digits of a negative one
abbrev pub integer : ℤ → List ℕ
integer (pos n) = natural n
integer (negsuc n) = 0x2D ∷ natural (suc n)

-- words with single spaces between them, and byte 0A
abbrev pub line : List (List ℕ) → List ℕ
line [] = 0x0A ∷ []
line (w ∷ []) = w ++ (0x0A ∷ [])
line (w ∷ v ∷ ws) = w ++ (0x20 ∷ line (v ∷ ws))

-- the words: plans, solved, links, refused, at
abbrev pub plans_word : List ℕ
plans_word = 0x70 ∷ 0x6C ∷ 0x61 ∷ 0x6E ∷ 0x73 ∷ []

abbrev pub solved_word : List ℕ
solved_word = 0x73 ∷ 0x6F ∷ 0x6C ∷ 0x76 ∷ 0x65 ∷ 0x64 ∷ []

abbrev pub links_word : List ℕ
links_word = 0x6C ∷ 0x69 ∷ 0x6E ∷ 0x6B ∷ 0x73 ∷ []

abbrev pub refused_word : List ℕ
refused_word = 0x72 ∷ 0x65 ∷ 0x66 ∷ 0x75 ∷ 0x73 ∷ 0x65 ∷ 0x64 ∷ []

abbrev pub at_word : List ℕ
at_word = 0x61 ∷ 0x74 ∷ []

-- a plan: the sum, each present ceiling cost, the word `links`, the link numbers
abbrev pub plan_line : Network → List ℕ → List ℕ
plan_line net ts = line (map integer (vector net ts) ++ (links_word ∷ map natural ts))

-- the plans of a yard: `plans C solved Q`, then a line for each plan
abbrev pub plans_text : Network → List ℕ
plans_text net =
    line (plans_word ∷ natural (length (plans net)) ∷ solved_word ∷ natural (solved_count net) ∷ []) ++ join (map (plan_line net) (plans net))

-- the whole output, by what the list call's check found: the plans, or `refused N at P`
abbrev pub text_of : Checked → Network → List ℕ
text_of (Ok u) net = plans_text net
text_of (Err r) net = line (refused_word ∷ natural (number_of r.rule) ∷ at_word ∷ natural r.place ∷ [])

-- what the program prints: the first 4,096 bytes of its input, or all, are the survey, and it allows 1,600 positions
unfoldable pub printed : List ℕ → List ℕ
printed input = let s = take max_input input in text_of (list_checked s max_plans max_need) (network_of s)
