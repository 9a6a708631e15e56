-- what counting positions asks, and that they are those of a network
pub mod Positions
-- what reading a survey gives
pub mod Survey
