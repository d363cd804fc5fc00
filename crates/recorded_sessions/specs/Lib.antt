-- To be read: public clauses speak of each of these.
pub mod Recordings
pub mod Naming
pub mod Telling
pub mod Sessions
pub mod Places
pub mod Stopping
-- For the steps of the code.
pub mod Following
