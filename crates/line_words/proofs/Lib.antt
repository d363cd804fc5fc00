mod BeginLaws
pub mod DigitLaws
pub mod PieceLaws
pub mod WordLaws
