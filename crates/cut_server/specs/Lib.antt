-- To be read: public clauses speak of these.
pub mod Runs
pub mod Points
pub mod Unhindered
