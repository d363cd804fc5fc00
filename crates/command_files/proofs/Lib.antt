pub mod Openings
pub mod Unchanged
pub mod Endings
