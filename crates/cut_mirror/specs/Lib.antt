-- To be read: public clauses speak of these.
pub mod Following
pub mod Foretelling
pub mod Mirrors
pub mod Walks
