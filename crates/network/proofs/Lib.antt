-- Theorems on the definitions of specs/, in the order of those:
pub mod Column
pub mod Tabulate
-- when the planner declines: the first of several refusals, numbers 1 to 8, 15, 18 and 19, then the calls with 9, 10, 11, 14
pub mod CheckedLaws
pub mod WorkedRight
-- theorems: which stations work, what the definitions mean, what holds of a survey's layout, of an accepted survey's bytes, of its costs and of its
-- network
pub mod Resting
pub mod Meaning
pub mod Layouts
pub mod Accepted
pub mod Sums
pub mod CostsLaws
pub mod NetworkFine
-- the same bytes in another place
pub mod Moved
-- surveys that are planned alike: those that say the same in two layouts, with the right link count or with no station at rest; surveys that are cut off
pub mod Alike
pub mod SameYard
pub mod Count
pub mod Cut
-- demands 2 and 3, and what callers rely on in an index, in a survey that is written and in the small surveys
pub mod AnswerPromise
pub mod Promise
pub mod IndexPromise
-- what callers rely on in all trees
pub mod EveryTreePromise
-- the stations at rest, byte by byte
pub mod RestBits
