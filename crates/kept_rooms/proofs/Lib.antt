pub mod Taking
pub mod OneReading
pub mod Making
pub mod Refusing
pub mod Looking
