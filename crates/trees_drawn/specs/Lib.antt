-- one link more
pub mod Drawing
-- a list gone through link by link: when it is a tree
pub mod Drawn
