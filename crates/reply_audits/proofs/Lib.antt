mod Verdicts
mod Answering
pub mod Goings
mod Standing
