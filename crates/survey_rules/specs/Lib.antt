-- the loop over the ranks
pub mod Tried
-- the costs of absent ceilings, one after the other
pub mod Absent
-- the costs of absent ceilings, read from a link record
pub mod Read
-- the fields that a yard record has in some layouts alone
pub mod Given
