pub mod Letters
pub mod NewFiles
