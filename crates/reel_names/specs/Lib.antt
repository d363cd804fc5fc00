-- To be read: public clauses speak of each of these.
pub mod Names
pub mod Namers
pub mod Tables
