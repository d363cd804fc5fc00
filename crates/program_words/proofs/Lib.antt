pub mod FewWords
pub mod Fronts
