-- To be read: public clauses speak of these.
pub mod FirstLines
