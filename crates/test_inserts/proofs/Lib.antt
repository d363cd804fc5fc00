pub mod TestTracks
