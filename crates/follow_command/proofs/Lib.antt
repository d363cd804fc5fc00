pub mod Ending
pub mod FrontLaws
pub mod StreamLists
pub mod Accepted
