pub mod FirstBytes
pub mod Heads
pub mod Lines
pub mod LinesRead
pub mod LinesWritten
pub mod PageHeads
pub mod Leaving
