-- To be read: public clauses speak of these.
pub mod Seats
pub mod Turns
pub mod Faults
-- For the steps of the code, for proofs and for tests.
pub mod Names
