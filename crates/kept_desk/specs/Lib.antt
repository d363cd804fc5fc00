-- To be read: public clauses speak of these.
pub mod Desks
pub mod Faults
