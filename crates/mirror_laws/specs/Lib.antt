-- To be read: the replies of a room with a history.
pub mod Told
