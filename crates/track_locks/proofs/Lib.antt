pub mod Stands
pub mod Several
pub mod Begin
pub mod Goods
pub mod HeldSeats
pub mod HeldHomes
