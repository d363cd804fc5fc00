-- To be read: public clauses speak of these.
pub mod LinkedItems
pub mod Linking
pub mod ItemLinks
pub mod Renumbering
pub mod LinkedShifts
-- For the steps of the code, for proofs and for tests.
pub mod Splits
pub mod Marks
pub mod Keys
pub mod Inside
pub mod Starts
pub mod FoundItems
