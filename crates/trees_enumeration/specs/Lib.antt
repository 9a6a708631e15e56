-- where the search through the trees stands, and what is still to come
pub mod Growing
-- the groups after each link that it has taken
pub mod History
-- the links that it has taken
pub mod Taken
-- a tree with its last link taken once more, and the groups after it
pub mod Retaken
-- the trees from one that was found on
pub mod Enumerated
-- tree r handed out
pub mod Numbering
