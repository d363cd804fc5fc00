pub mod Rates
pub mod Asking
pub mod NameRows
pub mod LastEqual
pub mod ListedRows
pub mod WordsBehind
pub mod RecordWords
