-- the records with a lower sum
pub mod Lower
-- the place of a plan among records
pub mod Place
-- the records that a plan leaves
pub mod Pruned
-- insertion into the frontier of records, and by the passes of the code
pub mod Insertion
pub mod Level
-- what the calls ask and leave
pub mod Taken
-- insertion of the plans that the records stand for
pub mod Alike
pub mod Stored
-- the finished buffer, and that it is the list of the plans that it held
pub mod Finished
