-- To be read: public clauses speak of these.
pub mod Stacks
pub mod Nests
pub mod Channels
pub mod Strips
pub mod Segments
pub mod Hiding
-- For the steps of the code, for proofs and for tests.
pub mod Joined
pub mod Ends
pub mod Marks
