-- the threshold walk of a network: the entries that it solves, and what it has done when the first n positions are visited
pub mod Entries
pub mod Progress
-- what it says of itself in the end
pub mod Walked
-- the front of an array, lent and come back
pub mod Lent
-- the walk concluded: the promised list, or nothing
pub mod Concluded
-- the list call on a network
pub mod Call
