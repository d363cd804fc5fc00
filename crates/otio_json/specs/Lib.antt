-- To be read: public clauses speak of each of these.
pub mod Nests
pub mod Openings
pub mod Timelines
pub mod Soundness
pub mod ShownTracks
