-- For tests.
pub mod Sides
