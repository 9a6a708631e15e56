-- a tree as flags, its links, and which of two trees comes first
pub mod Flags
-- the sets of exceptional links that are tried
pub mod Sets
-- the search as a program has it
pub mod Search
-- trees as the code holds them, by what they take of the base
pub mod Stands
-- the flags of a trial's links, as they are set one by one
pub mod Marks
-- what the base is has one proof at most
pub mod Once
-- the trial that takes the lead
pub mod Chosen
-- what a walk over links adds to a forest
pub mod Growth
-- the sets that cannot lead to a better tree
pub mod Rest
-- the base alone, and that it is what the search offers first
pub mod BaseAlone
-- rows of leaders: what is joined after each link of the base, and what joins two stations there
pub mod Rows
-- the tree that a set of exceptions leads to
pub mod Grows
-- trials of one and of two exceptions
pub mod Trials
