pub mod Sound
pub mod Importing
