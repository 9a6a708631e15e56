-- the reply to a ceilings question and what it leaves, by what the inner functions found
pub mod Best
