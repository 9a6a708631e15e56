-- the number of the calls' version
pub mod Version
