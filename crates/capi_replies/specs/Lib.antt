-- replies as plain numbers
pub mod Replies
-- the part that fetching names
pub mod Parts
-- the reply of a lookup as plain numbers
pub mod Flat
