-- To be read: public clauses speak of each of these.
pub mod Judging
pub mod Sessions
-- For the steps of the code.
pub mod Naming
pub mod Points
