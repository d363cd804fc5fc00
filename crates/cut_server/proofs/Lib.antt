pub mod Openings
pub mod Telling
pub mod EndingWell
pub mod Points
pub mod ToldFiles
pub mod RecordsRead
