pub mod EntryLengths
pub mod EntryTexts
pub mod IntoRoom
pub mod JournalLaws
pub mod JournalSteps
pub mod LateEntries
pub mod NewsLaws
