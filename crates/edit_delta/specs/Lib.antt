-- To be read: public clauses speak of each of these.
pub mod Nearest
pub mod Reaching
pub mod Using
pub mod Parts
