pub mod LabelFrames
pub mod WordFacts
pub mod CutLines
pub mod RowWords
