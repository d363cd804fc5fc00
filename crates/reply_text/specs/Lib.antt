-- To be read, all of it: the text of each reply.
pub mod Replies
pub mod Sights
-- For the code: a reply as it is kept.
pub mod KeptTexts
