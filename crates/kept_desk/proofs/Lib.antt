mod Desks
mod Entered
pub mod Fronts
