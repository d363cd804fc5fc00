-- To be read: public clauses speak of each of these.
pub mod Labels
pub mod Numbers
pub mod Places
pub mod Spelling
