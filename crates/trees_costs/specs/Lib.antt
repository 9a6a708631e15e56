-- the sum of a list of links
pub mod Added
-- figures in falling order, and the first ones of them
pub mod Falling
-- a figure that goes among those in front
pub mod Slide
-- the figures held after each figure read
pub mod Kth
-- a ceiling cost of a list of links
pub mod Ceiling
-- the sum and the ceiling costs of a list of links
pub mod TreeCosts
