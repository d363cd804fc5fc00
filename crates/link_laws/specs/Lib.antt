-- To be read: public clauses speak of each of these.
pub mod Together
pub mod Weights
pub mod Rooms
pub mod Given
pub mod Laws
pub mod SlipLaws
pub mod Wholes
pub mod Histories
