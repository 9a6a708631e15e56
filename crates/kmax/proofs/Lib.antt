-- k-max costs, exceptions to ceilings, and the search over them, for any number of ceilings and any k. In reading order:
-- the k-th largest in k passes: at most b where fewer than k are above b
pub mod KMax
-- a tree fits where its exceptional edges are admissible, and these are few
pub mod Ceilings
-- edges that exceed the same ceilings, and exceptional edges that are admissible by themselves
pub mod Pattern
-- the pattern of an edge as a number, by whose digits sets of edges are admitted
pub mod Digits
-- all subsequences with at most r elements
pub mod Subsets
-- complete each admissible set and keep the best: the leftmost cheapest tree that fits
pub mod Search
