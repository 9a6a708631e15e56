-- the patterns of links, from their costs and the bounds
pub mod Patterns
-- those of a network: what the theory's ceilings say
pub mod OfNetwork
-- the digits of two patterns, ceiling by ceiling
pub mod Admit
-- the patterns whose links may be exceptions
pub mod Fit
-- links to select from, in order of cost
pub mod Select
-- the exceptions that are kept, pattern by pattern
pub mod Keep
