-- To be read: public clauses speak of each of these.
pub mod Sources
pub mod Edits
pub mod Fills
