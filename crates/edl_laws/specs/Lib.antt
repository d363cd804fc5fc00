-- To be read: public clauses speak of each of these.
pub mod Named
pub mod RoundTrips
pub mod Meanings
