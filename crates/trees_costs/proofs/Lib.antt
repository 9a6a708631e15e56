-- figures in falling order, and the first ones of them
pub mod Falling
-- the figures held after each figure read
pub mod KthLaws
