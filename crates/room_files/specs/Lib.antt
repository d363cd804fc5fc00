-- To be read: public clauses speak of these.
pub mod Files
pub mod WrittenInside
-- For the steps of the code, for proofs and for tests.
pub mod FilesInside
pub mod States
