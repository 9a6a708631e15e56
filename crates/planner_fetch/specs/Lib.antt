-- what the archive relies on
pub mod Archive
