pub mod RowFrames
pub mod TimeLaws
pub mod RowSound
pub mod TrackSound
pub mod ReelLaws
pub mod MediaKeys
