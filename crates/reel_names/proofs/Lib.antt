pub mod NameBytes
pub mod GivenNames
pub mod TableRows
