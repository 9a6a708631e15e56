-- the ceiling costs of a survey's links, written ceiling by ceiling
pub mod Columns
-- what a survey must have to be decoded, and what is then at the fronts of the lent columns
pub mod Decoded
