-- plan records
pub mod Records
-- the costs in a record
pub mod Held
-- the orders of costs
pub mod Orders
