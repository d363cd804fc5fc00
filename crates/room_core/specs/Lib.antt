-- To be read: public clauses speak of these.
pub mod Totals
pub mod Calls
pub mod History
pub mod Machine
pub mod OwnParts
pub mod Parts
pub mod Projection
pub mod Whole
-- For the steps of the code, for proofs and for tests.
pub mod TotalLaws
