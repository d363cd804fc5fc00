pub mod Named
pub mod Lasts
pub mod CallNames
pub mod Steps
pub mod Streams
pub mod Walking
pub mod Seeing
