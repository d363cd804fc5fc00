-- To be read: what a room of cuts keeps, what its steps mean, and what is left of them.
pub mod CutSteps
pub mod CutLaws
