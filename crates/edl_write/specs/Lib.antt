-- To be read: public clauses speak of each of these.
pub mod Order
pub mod Naming
pub mod ListEvents
pub mod Lines
pub mod Text
pub mod Refusals
-- For the steps of the code.
pub mod Merging
pub mod NamingSteps
pub mod Limits
