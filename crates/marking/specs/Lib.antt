-- The different values of a ceiling in falling order, and places in them
pub mod Place
pub mod Values
-- Marks of the walk's positions, for any number of ceilings whose values are in falling order: a box of marks, which marks it sets, what an answer settles
pub mod Paint
pub mod Box
pub mod Settle
-- a box by strides and counts
pub mod Sides
-- Positions as numbers in a mixed radix, a digit for each ceiling
pub mod Digits
-- the values of each ceiling, in its part of one array
pub mod Parts
-- the grid of a network's ceilings
pub mod Gridded
