-- To be read: public clauses speak of each of these.
pub mod CutTrees
pub mod SoundCuts
pub mod SameCut
pub mod Meanings
pub mod Points
