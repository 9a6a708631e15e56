-- What the arrays of the code hold, at least what the limits let a survey have (`survey-fine`). No figure of document 01 is here: the code between the
-- reader of a survey and the calls goes by these, and only by these; the raise, and the ceilings that costs are listed for, are the definitions' too.
use Rattle.std.specs.Prelude.{ℕ, ◌^◌, ◌*◌, ◌-◌}

-- stations, and so entries of the groups of stations
abbrev pub stations_held : ℕ
stations_held = 24

-- links
abbrev pub links_held : ℕ
links_held = 40

-- ceilings
abbrev pub ceilings_held : ℕ
ceilings_held = 3

-- links of a tree
abbrev pub tree_held : ℕ
tree_held = stations_held - 1

-- the sets of ceilings whose bounds a link may be above
abbrev pub patterns_held : ℕ
patterns_held = 2 ^ ceilings_held

-- links above bounds that a tree may have: sets of so many are tried
abbrev pub exceptions_held : ℕ
exceptions_held = 2

-- the rank up to which the largest figures are held apart from the others
abbrev pub rank_held : ℕ
rank_held = 3

-- positions, and so plans of a list
abbrev pub plans_held : ℕ
plans_held = 1600

-- what a sum cost is raised by, so that none is below 0
abbrev pub raise : ℕ
raise = 1_000_000

-- the highest sum cost when it is raised
abbrev pub sum_held : ℕ
sum_held = 2 * raise
