mod Points
mod Rests
