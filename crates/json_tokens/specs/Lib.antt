-- To be read: public clauses speak of these.
pub mod Reading
pub mod ReadingTexts
pub mod ReadingNumerals
pub mod Spelled
pub mod Tables
pub mod Decimal
pub mod Grammar
pub mod Faults
-- For the steps of the code, for proofs and for tests.
pub mod Significant
