-- To be read: public clauses speak of each of these.
pub mod Overlaps
pub mod Reading
pub mod ReadLists
pub mod TapeText
pub mod Pieces
pub mod Laying
pub mod Waits
