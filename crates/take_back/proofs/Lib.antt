pub mod AsItWas
pub mod Changes
pub mod Rests
pub mod Costs
