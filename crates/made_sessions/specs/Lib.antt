-- To be read: public clauses speak of these.
pub mod Scripts
pub mod Sessions
-- For the steps of the code.
pub mod Comparing
