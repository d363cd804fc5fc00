pub mod OverPlaces
pub mod SourceRanges
pub mod Removals
pub mod Inserts
pub mod Filled
