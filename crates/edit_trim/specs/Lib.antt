-- To be read: public clauses speak of these.
pub mod Darkness
pub mod Trimming
pub mod Slipping
pub mod Rippling
-- For the steps of the code, for proofs and for tests.
pub mod RipplingInside
pub mod LinkedSlips
