-- To be read: public clauses speak of it.
pub mod PageText
-- Its text.
pub mod PageMarkup
pub mod PageStyle
pub mod PageCut
pub mod PageSeat
pub mod PageRoom
pub mod PagePicture
pub mod PageEdits
pub mod PagePast
pub mod PageHands
