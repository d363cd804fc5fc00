-- To be read: public clauses speak of these.
pub mod Layout
pub mod Standing
-- What is appended at once.
pub mod Batches
-- For the steps of the code and for proofs.
pub mod Reading
pub mod Stages
