-- To be read: public clauses speak of each of these.
pub mod Division
pub mod Moments
pub mod Numerals
pub mod Rates
