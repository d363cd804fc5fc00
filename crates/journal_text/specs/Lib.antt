-- To be read: the journal as text, and the reply that tells one entry.
pub mod Journals
pub mod NewsTexts
-- Why a text is refused, for the laws.
pub mod JournalFaults
pub mod JournalMeanings
-- For the steps of the code.
pub mod LooseEntries
