pub mod Transcripts
pub mod Serving
pub mod Serves
pub mod Inputs
pub mod Replying
pub mod Knowing
