-- To be read: public clauses speak of it.
pub mod Items
pub mod Wants
pub mod Keys
-- Of the code: how a list is kept.
pub mod Page
pub mod Summary
pub mod Packing
pub mod Block
pub mod Spots
