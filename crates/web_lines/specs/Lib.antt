-- To be read: public clauses speak of these.
pub mod FirstBytes
pub mod Requests
pub mod Heads
pub mod Responses
pub mod Lines
pub mod Outgoing
