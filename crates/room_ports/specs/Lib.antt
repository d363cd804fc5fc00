-- To be read: public clauses speak of these.
pub mod Counts
pub mod Bytes
pub mod Calls
pub mod Pieces
-- For the steps of the code, for proofs and for tests.
pub mod Sides
pub mod States
