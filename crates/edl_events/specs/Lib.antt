-- To be read: public clauses speak of each of these.
pub mod Channels
pub mod Events
pub mod Tape
