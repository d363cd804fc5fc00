-- To be read: public clauses speak of these.
pub mod Cuts
pub mod Points
pub mod Tapes
pub mod Imports
pub mod Fades
pub mod Countings
