-- To be read: public clauses speak of these.
pub mod Notices
pub mod Complaints
pub mod CommandTexts
