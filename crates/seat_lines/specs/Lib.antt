-- To be read: public clauses speak of these.
pub mod Texts
pub mod Sayings
pub mod Seats
pub mod Runs
