-- To be read: public clauses speak of each of these.
pub mod Neighbours
pub mod Rolling
pub mod Sliding
pub mod Lengths
-- For the steps of the code, for proofs and for tests.
pub mod NeighboursInside
