-- To be read: public clauses speak of these.
pub mod Records
pub mod Kept
pub mod Readings
pub mod Rooms
pub mod Making
