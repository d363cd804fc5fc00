-- To be read, all of it: the laws.
pub mod Meanings
pub mod Tokens
pub mod Documents
