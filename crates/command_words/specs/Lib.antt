-- To be read: public clauses speak of these.
pub mod Commands
pub mod Names
pub mod Records
pub mod NamedLists
pub mod WordFaults
