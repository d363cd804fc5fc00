pub mod Greatest
pub mod Clamping
pub mod Answered
pub mod Spots
pub mod Bounded
pub mod Pieces
pub mod Own
