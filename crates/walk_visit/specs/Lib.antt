-- what the code finds at a position: its bounds, the sides of its box
pub mod Found
-- the places of a position by strides
pub mod Position
pub mod Boxes
-- what an answer does to the marks and to the records of plans
pub mod Answered
-- one position: its question, and what its answer settles
pub mod Visit
-- what solving it asks of the records of plans, and what it leaves
pub mod Visited
