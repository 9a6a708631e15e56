-- the choices of a link
pub mod Choices
-- the links of a number, and their records
pub mod Numbered
-- the small surveys are all of their kind, each once and in order
pub mod Kind
