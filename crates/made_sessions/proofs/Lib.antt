pub mod Scripting
pub mod Coming
