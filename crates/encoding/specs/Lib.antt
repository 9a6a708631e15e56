-- numbers compared through their bits
pub mod Compared
-- what was written is read back
pub mod RoundTrip
-- the ends of the ranges of 16 and 32 bits
pub mod Range
-- the same of signed numbers
pub mod SignedRoundTrip
-- bytes that hold records of one size
pub mod Blocks
-- fields of one width, written one after the other
pub mod Fields
