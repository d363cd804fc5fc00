-- To be read: public clauses speak of it.
pub mod CodeTexts
