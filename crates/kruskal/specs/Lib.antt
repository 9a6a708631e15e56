-- the forest value that takes one link after another
pub mod Tree
-- the links that are kept
pub mod Base
-- what the forest value means: the theory's Kruskal
pub mod Grown
-- the loop that collects the links that are kept
pub mod Basing
