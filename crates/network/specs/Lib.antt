-- Document 01, with the requests of document 02 that it has taken in, as definitions. In the document's order:
-- its numbers, and apart from them what the arrays of the code hold
pub mod Limits
pub mod Capacities
-- the yard and its plans: stations, links, trees, cost vectors, the best tree under ceilings
pub mod Network
pub mod Yard
-- the walk: positions, solved count, allowance, the list
pub mod Walk
-- bytes: numbers, two's complement, marks; arrays filled record by record; the survey; the plan list
pub mod Bytes
pub mod Column
pub mod Tabulate
pub mod Survey
pub mod PlanList
-- when the planner declines: the first of several refusals, numbers 1 to 8, 15, 18 and 19, then the calls with 9, 10, 11, 14
pub mod Checked
pub mod Refusals
pub mod Calls
-- fetching: 12, 13
pub mod Fetching
-- the index by first ceiling: 12, 13, 16
pub mod Indexing
-- writing surveys: 2 of the kind, 3 to 8 of figures, 17
pub mod Writing
-- all small surveys in order: 20, 17
pub mod SmallSurveys
-- every tree of a yard of at most 12 links: 21, 9, 13
pub mod EveryTree
-- printing
pub mod Printing
-- the yards worked through, P1 to P49
pub mod WorkedYards
pub mod Worked
pub mod WorkedRight
pub mod Meaning
pub mod Layouts
pub mod Accepted
pub mod NetworkFine
-- the network of a shape and its columns
pub mod Shaped
-- the same bytes in another place
pub mod Moved
-- surveys that are planned alike: those that say the same in two layouts, with the right link count or with no station at rest; surveys that are cut off
pub mod Alike
pub mod SameYard
pub mod Count
pub mod Cut
-- demands 2 and 3, and what callers rely on in an index, in a survey that is written and in the small surveys
pub mod AnswerPromise
pub mod Promise
pub mod IndexPromise
pub mod WritingPromise
pub mod SmallPromise
-- what callers rely on in all trees
pub mod EveryTreePromise
