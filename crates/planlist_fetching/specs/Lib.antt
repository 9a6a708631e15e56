-- finding a plan: what the tests say
pub mod Found
-- the tests of fetching, and fetching from a written list
pub mod Fetched
-- the list of an accepted survey: its plans are found, and its records read
pub mod Listable
