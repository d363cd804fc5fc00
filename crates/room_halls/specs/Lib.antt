-- To be read: public clauses speak of these.
pub mod Stations
-- For the steps of the code, for proofs and for tests.
pub mod Lines
pub mod Connections
