-- To be read: public clauses speak of these.
pub mod Bounds
pub mod Items
pub mod Views
pub mod TrackState
pub mod TrackFacts
pub mod Sizes
pub mod Joined
pub mod Places
pub mod Good
pub mod Roomy
pub mod Ranges
pub mod Changes
pub mod Standing
pub mod Answers
pub mod Limits
pub mod OwnTracks
pub mod TrackSets
pub mod Links
-- For the steps of the code, for proofs and for tests.
pub mod TrackInside
