-- To be read: public clauses speak of these.
pub mod Documents
-- For the steps of the code, for proofs and for tests.
pub mod Texts
pub mod TextInside
