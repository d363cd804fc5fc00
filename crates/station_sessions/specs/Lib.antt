-- To be read: what a station is told, and how its session ends.
pub mod Transcript
pub mod Rooms
pub mod DocumentReplies
pub mod Outside
pub mod Serving
-- For the law that a transcript stays true.
pub mod Longer
-- For the steps of the code: one line answered, and the lines so far.
pub mod Session
pub mod SessionInside
pub mod Served
pub mod Stopping
