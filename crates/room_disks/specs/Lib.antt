-- To be read: public clauses speak of these.
pub mod Crashes
pub mod Tapes
-- For the steps of the code and for proofs.
pub mod TapesInside
-- The lemma that a law of the trait needs.
pub mod TapeLaws
