-- To be read: public clauses speak of each of these.
pub mod Going
pub mod Cells
pub mod Marks
pub mod Render
pub mod Runs
pub mod Splice
pub mod Numbered
pub mod RunFrames
