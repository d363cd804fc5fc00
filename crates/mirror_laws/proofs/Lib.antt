pub mod Gaps
pub mod Lines
pub mod Others
pub mod Streams
pub mod Transcripts
