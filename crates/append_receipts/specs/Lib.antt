-- To be read: the rule of all seats, and what each kind of step does.
pub mod Receipts
-- What contracts see.
pub mod States
