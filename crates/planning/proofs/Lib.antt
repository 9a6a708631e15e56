-- The best spanning trees of a network under ceilings, for any number of stations, links and ceilings. In reading order:
-- the graph, its trees and their costs as a problem of `frontier`, and the search for the best tree
pub mod Graph
-- every ceiling cost of a tree is among the values that the walk goes through
pub mod Grid
-- a set of exceptional links, completed by Kruskal's method, is the best tree with these exceptional links
pub mod Complete
-- THE THEOREM: the search finds the best tree
pub mod Search
-- links that exceed the same ceilings are exchanged for the cheapest ones
pub mod Exchange
-- pattern after pattern: sets of links that are kept of their pattern are enough for the search
pub mod Patterns
