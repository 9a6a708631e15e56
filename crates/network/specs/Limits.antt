-- The limits of document 01. Ceiling costs are of 16 bits and the allowance is of 32: their types say so.
use Rattle.std.specs.Prelude.{ℕ, ◌-◌, ℤ, neg_ℤ, pos}

-- stations: 1 to 24
abbrev pub max_stations : ℕ
max_stations = 24

-- links: 0 to 40
abbrev pub max_links : ℕ
max_links = 40

-- links of a survey whose trees are written out: at most 12
abbrev pub max_enumerated : ℕ
max_enumerated = 12

-- p, the number of ceiling costs: 0 to 3; which of them a survey may have, its layout says
abbrev pub max_ceilings : ℕ
max_ceilings = 3

-- k, the rank of a ceiling cost: 1 to 3
abbrev pub max_rank : ℕ
max_rank = 3

-- what the ranks have above 1, added up: at most 2, so that a 3 stands beside ranks of 1 alone, and two may be 2
abbrev pub max_slack : ℕ
max_slack = 2

-- s, the sum cost of a link: -1,000,000 to 1,000,000
abbrev pub max_sum : ℕ
max_sum = 1_000_000

-- the lowest of them
abbrev pub min_sum : ℤ
min_sum = neg_ℤ (pos max_sum)

-- t, the links of a tree: at most 23
abbrev pub max_tree : ℕ
max_tree = max_stations - 1

-- M, the number of positions, and so the plans of a list: at most 1,600
abbrev pub max_plans : ℕ
max_plans = 1_600

-- what the program takes of standard input, in bytes
abbrev pub max_input : ℕ
max_input = 4096
