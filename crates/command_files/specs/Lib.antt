-- To be read: public clauses speak of these.
pub mod Statuses
pub mod Ports
pub mod Texts
pub mod Unopened
pub mod Documents
pub mod Journals
pub mod Lists
