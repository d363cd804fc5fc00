-- To be read: public clauses speak of each of these.
pub mod Parts
pub mod Splicing
pub mod NewItems
pub mod PutIn
pub mod Laws
pub mod Counting
pub mod Shifts
pub mod Padding
pub mod Moves
pub mod Standing
