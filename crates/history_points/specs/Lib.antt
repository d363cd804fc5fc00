-- To be read: public clauses speak of these.
pub mod Replays
pub mod Reached
pub mod InPlace
pub mod KeptCuts
-- For the steps of the code, for proofs and for tests.
pub mod Slots
pub mod KeptInside
