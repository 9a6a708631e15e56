-- the layouts that the writer knows
pub mod Layouts
-- the fields of a survey that was written
pub mod Fields
-- figures as columns
pub mod Columns
-- what the reader says of it
pub mod ReadBack
-- any figures handed in as columns
pub mod Handed
-- a survey that was read and is written again
pub mod Former
-- writes that make its records
pub mod Written
-- surveys that say the same figures are planned alike
pub mod Planned
-- the figures of an accepted survey are legal
pub mod Legal
