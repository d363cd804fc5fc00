pub mod Sets
pub mod Slotted
pub mod NamedCalls
pub mod Renumbered
pub mod Openings
pub mod Keeping
pub mod Meeting
