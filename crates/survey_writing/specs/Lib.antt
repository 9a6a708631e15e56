-- the layout that is found
pub mod Found
-- the figures of a survey and of a link
pub mod Figures
-- columns made full
pub mod Padded
-- what is left of writing once the yard is not refused
pub mod Filled
