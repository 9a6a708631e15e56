-- What the other crates share: tests, lists, total orders, sorting and merging, least members, rows and columns by keys. In reading order:
-- Bool tests as equations, and case splits on them
pub mod Test
-- members, filters, counts, the first that passes
pub mod Lists
-- a property of every member, shown member by member
pub mod Every
-- permutations, relations between all members of a list, and sums
pub mod Perm
-- signed costs kept as natural numbers, and their sums
pub mod Lowered
-- total orders: of ℕ, ℤ, pairs and lists
pub mod Order
-- sorted and strictly rising lists, and insertion sort
pub mod Sorted
-- members with different keys are no more than the keys
pub mod Pigeonhole
-- the leftmost least member
pub mod Least
-- merging sorted lists
pub mod Merge
-- rows of a key and a number, sorted and merged
pub mod Rows
-- the numbers below n by rising keys
pub mod Numbers
-- columns that count, and the numbers of a column in the order of its keys
pub mod Columns
