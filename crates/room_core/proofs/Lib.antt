pub mod Histories
pub mod Machines
pub mod WholeParts
pub mod Holding
pub mod Order
