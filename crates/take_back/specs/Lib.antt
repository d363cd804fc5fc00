-- To be read: public clauses speak of these.
pub mod Parts
pub mod Steps
pub mod Left
pub mod NeverBack
-- Lemmas with their proofs, which say nothing that a reader needs: the laws of the object cite the last names of
-- StepLaws and of RoomyLaws, and what such a law cites stands here.
pub mod Lists
pub mod Rules
pub mod StepLaws
pub mod History
pub mod Backs
pub mod LeftLaws
pub mod Numbers
pub mod RoomyLaws
