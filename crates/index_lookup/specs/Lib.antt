-- entries in a buffer
pub mod Entries
-- how the places by rising key are known
pub mod Known
-- the best plan so far, in a pass through the keys
pub mod Search
-- a lookup by keys, and what it replies
pub mod Finding
