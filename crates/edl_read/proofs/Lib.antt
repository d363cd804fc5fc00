pub mod ApartFacts
pub mod RunTexts
pub mod EventFrames
pub mod LaidFacts
pub mod StartPlaces
