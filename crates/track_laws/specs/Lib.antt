-- To be read: public clauses speak of these.
pub mod Kept
pub mod Goods
pub mod Shown
