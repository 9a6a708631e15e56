-- the ways that the call goes, and what callers rely on
pub mod Calling
