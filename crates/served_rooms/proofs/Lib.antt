pub mod HallRuns
pub mod Sound
pub mod Closing
pub mod Seating
pub mod AllStations
pub mod Ending
