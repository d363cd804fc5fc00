-- To be read: the lines, and the calls as text.
pub mod Spelling
pub mod Labels
pub mod Reading
pub mod CallTexts
-- The same told a second way, and why a text is refused, for the laws.
pub mod Table
pub mod Faults
pub mod Meanings
-- For the steps of the code.
pub mod LikelyWords
