-- ends that are stations
pub mod Stations
-- working stations counted bit by bit
pub mod Counting
