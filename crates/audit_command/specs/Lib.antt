-- To be read: public clauses speak of these.
pub mod Recordings
pub mod Explained
pub mod Refused
pub mod Reads
pub mod RefusalLines
pub mod Audits
-- For the steps of the code.
pub mod Stations
