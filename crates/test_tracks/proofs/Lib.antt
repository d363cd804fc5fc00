pub mod Laid
pub mod Alone
pub mod Found
pub mod RoomyTracks
