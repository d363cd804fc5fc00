pub mod Growing
pub mod TextLaws
