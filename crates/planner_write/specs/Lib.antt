-- what callers rely on
pub mod Promised
-- the ways that the call goes
pub mod Calling
