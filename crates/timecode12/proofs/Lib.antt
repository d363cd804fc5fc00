pub mod Blocks
pub mod Day
pub mod Digits
pub mod Places
pub mod Told
