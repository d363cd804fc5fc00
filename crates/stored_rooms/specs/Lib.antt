-- To be read: public clauses speak of these.
pub mod KeptFiles
pub mod Stored
-- For the steps of the code and for proofs.
pub mod Inside
