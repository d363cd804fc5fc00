-- To be read: public clauses speak of these.
pub mod Stations
pub mod Journals
pub mod Origins
pub mod Halls
-- For the steps of the code, for proofs and for tests.
pub mod Closed
pub mod Seated
