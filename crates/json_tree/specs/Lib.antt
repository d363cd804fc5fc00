-- To be read: public clauses speak of these.
pub mod Tree
pub mod Size
pub mod View
pub mod ReadingValues
pub mod Writing
pub mod Grammar
pub mod Sound
pub mod Faults
pub mod Parts
-- For the steps of the code, for proofs and for tests.
pub mod Stored
pub mod SizeFalls
pub mod Next
