pub mod Contents
pub mod Cutting
pub mod Finding
