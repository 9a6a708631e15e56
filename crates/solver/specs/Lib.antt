-- the links in the caller's buffer
pub mod Buffer
-- the best tree, put together from what the search is given
pub mod Assembled
-- the best tree of a network, from its ranks, its patterns and its link order
pub mod OfNetwork
-- filters
pub mod Filter
-- what the program's search keeps is what the theory's search keeps
pub mod Found
-- THE THEOREM: the best tree of document 01
pub mod Best
-- what the best tree tells, with its links in the caller's buffer
pub mod Answer
-- the ceilings question with its answer
pub mod Question
