pub mod OneMeaning
pub mod Tokens
pub mod Documents
