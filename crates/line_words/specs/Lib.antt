-- To be read: public clauses speak of each of these.
pub mod Blanks
pub mod Digits
pub mod Lines
pub mod Pieces
pub mod Told
