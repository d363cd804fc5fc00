-- To be read: public clauses speak of each of these.
pub mod ListReels
pub mod TrackItems
pub mod Imports
pub mod Refusals
pub mod ShownLists
pub mod Meanings
-- For the steps of the code, for proofs and for tests.
pub mod ShotFacts
