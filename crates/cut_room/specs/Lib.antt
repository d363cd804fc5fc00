-- To be read: public clauses speak of each of these.
pub mod Opened
pub mod Gathered
pub mod Rooms
