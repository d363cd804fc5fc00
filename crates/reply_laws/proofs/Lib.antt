pub mod PlainDocuments
pub mod PlainReplies
pub mod PlainSights
pub mod PlainSteps
pub mod PlainTexts
