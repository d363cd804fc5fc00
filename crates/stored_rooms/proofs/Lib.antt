mod Accepted
mod Files
mod KeptPasses
mod ClosedRooms
mod Ends
