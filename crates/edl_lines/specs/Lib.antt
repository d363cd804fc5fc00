-- To be read: public clauses speak of each of these.
pub mod ListLines
pub mod Labels
pub mod Spelling
pub mod EventLines
pub mod LineFacts
