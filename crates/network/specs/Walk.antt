-- Document 01, "The walk (Algorithm 1)": positions, the walk and its solved count, the plans that it leaves, and the list that is promised.
-- A position is the list of the values picked. Values fall with their places, so "from this place through that place" is said by values.
use Rattle.std.specs.Prelude.{Bool, List, ℕ, ltb, ℤ, length}
use Rattle.frontier.specs.Frontier as walk
use Rattle.network.specs.Yard.{yard}
use Rattle.network.specs.Network.{Network}

-- for each present ceiling i its m_i different values over all usable links, in falling order: the value at place j is number j from the front
abbrev pub values : Network → List (List ℤ)
values net = (yard net).values

-- M: the product of the numbers of different values, and 1 if p = 0
abbrev pub position_count : Network → ℕ
position_count net = walk.product (values net)

-- the positions in dictionary order of their places
abbrev pub positions : Network → List (List ℤ)
positions net = walk.positions (values net)

-- The walk: each position that no earlier answer marked is solved. An answer marks every position that is, in each ceiling, from this place through
-- the place of the found tree's own cost, or, with none, every position at or beyond this one in each ceiling (`settles`).
abbrev pub solved : Network → List (walk.Entry ℤ (List ℕ))
solved net = walk.solved (yard net)

-- the solved count: the number of positions solved, found or none
abbrev pub solved_count : Network → ℕ
solved_count net = length (solved net)

-- the solved count would pass the allowance
abbrev pub passes : Network → ℕ → Bool
passes net allowance = ltb allowance (solved_count net)

-- what the walk leaves: of the trees found, without repeats of a vector and without dominated vectors, by rising vector
abbrev pub walked : Network → List (List ℕ)
walked net = walk.plans (yard net)

-- THE LIST: of all trees those whose vector no tree's vector dominates, of each vector the first, by rising sum and then each ceiling cost.
-- No walk is in this definition (Promise.antt: it is what the walk leaves).
abbrev pub plans : Network → List (List ℕ)
plans net = walk.listed (yard net)
