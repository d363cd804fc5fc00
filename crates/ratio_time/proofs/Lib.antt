pub mod Exactly
pub mod OneForm
pub mod Products
pub mod Rounding
pub mod Usual
pub mod Zeros
