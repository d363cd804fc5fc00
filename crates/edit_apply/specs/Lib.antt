-- To be read: public clauses speak of these.
pub mod Apply
pub mod RoomTracks
pub mod See
pub mod TogetherLaws
-- Lemmas with their proofs, which say nothing that a reader needs: the laws of the editor as an object cite the last
-- names of NamingLaws and of RoomyLaws, and what such a law cites stands here.
pub mod NamingLaws
pub mod LinkLaws
pub mod RoomyLaws
