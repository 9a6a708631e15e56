-- the key of a plan, and the keys of all plans
pub mod Key
-- keys compare as plans stand in the index
pub mod Order
-- the keys as a loop reads them
pub mod Reading
