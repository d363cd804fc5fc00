-- To be read: public clauses speak of these.
pub mod Restarts
-- For the steps of the code, for proofs and for tests.
pub mod Halls
pub mod Batches
