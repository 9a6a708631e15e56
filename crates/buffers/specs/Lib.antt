-- bytes that are written over others
pub mod Overwrite
-- parts lent and handed back
pub mod Tail
-- loops that copy and move, turn by turn
pub mod Copies
