pub mod Fronts
pub mod Piecewise
