-- To be read: public clauses speak of these.
pub mod Numbers
pub mod Entries
-- For the steps of the code.
pub mod Steps
