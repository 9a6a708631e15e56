-- numbers written as entries of an index
pub mod Entries
-- keys that fall
pub mod Falling
-- the index by the keys of plans
pub mod Built
-- what building replies and leaves
pub mod Replies
