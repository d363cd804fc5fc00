pub mod Beside
pub mod Moves
pub mod Slides
pub mod Lengths
pub mod LinkedSlides
