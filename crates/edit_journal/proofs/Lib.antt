pub mod Moves
pub mod Lasts
pub mod Opens
pub mod Fresh
