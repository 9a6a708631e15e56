-- The threshold algorithm of Gorski, Klamroth and Ruzika over any finite feasible set: read Frontier, then Plans.
-- cost vectors, and the definitions of the algorithm
pub mod Dominance
pub mod Frontier
-- theorems
pub mod Best
pub mod Walk
pub mod Found
pub mod Listed
pub mod Plans
-- all solutions taken into the frontier, one after another: the promised list
pub mod Collected
-- what code goes by: positions by places
pub mod Places
-- positions by their numbers, and in order
pub mod Ordered
