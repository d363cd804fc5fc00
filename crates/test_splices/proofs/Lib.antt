pub mod NamedTracks
