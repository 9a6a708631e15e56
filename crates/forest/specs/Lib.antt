-- An array whose elements are replaced one by one, from the front
pub mod MapFirst
-- the forest value in the theory's terms
pub mod Groups
-- the groups after each link of a list, in rows
pub mod History
-- an array that a function of the index made
pub mod Made
