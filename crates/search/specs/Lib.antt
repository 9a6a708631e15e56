-- a search under way, and a turn of one trial
pub mod Begun
-- the loops over all sets
pub mod Loops
