mod Goings
mod Passing
mod Settled
mod Refusing
mod Parting
