-- To be read: public clauses speak of these.
pub mod Reading
pub mod Values
pub mod Times
pub mod Parts
pub mod Clips
pub mod ReelTexts
pub mod Transitions
pub mod Rows
pub mod SoundParts
pub mod Building
-- For the steps of the code, for proofs and for tests.
pub mod SoundRows
pub mod RowInside
pub mod EntriesInside
