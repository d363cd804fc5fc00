mod Applied
mod Entries
mod Naming
mod Texts
