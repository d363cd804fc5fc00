-- To be read: what a stream of replies tells, how it is refused, and how the command ends.
pub mod NewsLines
pub mod Refusals
pub mod MirrorTexts
pub mod Follows
pub mod Fronts
pub mod Accepted
-- For the steps of the code.
pub mod Goes
pub mod Going
