-- the judge's reply, by what the inner functions found
pub mod Judge
