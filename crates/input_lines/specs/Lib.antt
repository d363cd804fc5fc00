-- To be read: how the lines of an input are taken.
pub mod Inputs
