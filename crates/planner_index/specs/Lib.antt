-- numbers that were written are read back
pub mod Held
-- the index: each plan number once, rising, and as building gives it
pub mod Index
-- the cheapest plan that meets a value, and that there is none
pub mod Cheapest
-- what callers rely on
pub mod Kept
