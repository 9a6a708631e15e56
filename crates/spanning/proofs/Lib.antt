-- Spanning trees, Kruskal's method with ties, and what a forest loses to further edges, over labellings of the vertices. In reading order:
-- labellings, and what an edge does to one
pub mod Labelling
-- a labelling held in a list, as a program has it
pub mod LabelList
-- forests and trees as lists of edges: order, exchange, equal size
pub mod Tree
-- what they mean with no label: joined vertices, and no ring
pub mod Joined
-- the tests of a tree, and that it has one edge fewer than there are vertices
pub mod Size
-- the greedy method: it finds a tree, and the least
pub mod Kruskal
-- a forest of that many edges is a spanning tree
pub mod Count
-- strictly rising lists in a range, and dictionary order
pub mod Rising
-- weights that break ties by dictionary order
pub mod Ties
-- all strictly rising lists of t numbers below m
pub mod Choose
-- the best tree with given edges in it: least cost, then first in dictionary order
pub mod Best
-- all spanning trees by edges that may be used, in dictionary order, with examples
pub mod Listing
-- the same trees by going through the edges in order, each first taken and then left
pub mod Branches
-- entries of a list by their places
pub mod Places
-- what a forest loses to one and to two edges
pub mod Lost
